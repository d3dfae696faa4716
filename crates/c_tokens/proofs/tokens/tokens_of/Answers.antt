use Rattle.std.proofs.Common.{sym, subst, arith}
use Rattle.std.specs.Str.{IsAscii}
use Rattle.usuba_tokens.proofs.PlaceLemmas.{moved}
use Rattle.c_tokens.specs.Tokens.{ended, broken}
use Rattle.c_tokens.proofs.HeadLemmas.{Takes, head_takes, token_within, word_is_ascii}
use Rattle.c_tokens.proofs.SpellingLemmas.{complete, past_blank, past_token}
use Rattle.c_tokens.proofs.tokens.tokens_of.Goals as goal

pub returns-in-End : goal.returns-in-End
returns-in-End c =
    complete _ _ _ _ c.loop-ending.rest.now _ c.loop-ending.invariant.spelled (ended _ _ (sym c.in-End.ensures))

pub returns-in-Broken : goal.returns-in-Broken
returns-in-Broken c =
    complete _ _ _ _ c.loop-ending.rest.now _ c.loop-ending.invariant.spelled (broken _ _ (sym c.in-Broken.ensures))

pub split_at-requires : goal.split_at-requires
split_at-requires c =
    subst (λ h. Takes h c.loop-ending.rest.now) (sym c.in-Blank.ensures) (head_takes c.loop-ending.rest.now)

pub loop-ending-smaller-in-Blank : goal.loop-ending-smaller-in-Blank
loop-ending-smaller-in-Blank c =
    let takes = subst (λ h. Takes h c.loop-ending.rest.now) (sym c.in-Blank.ensures) (head_takes c.loop-ending.rest.now) in
    omega (arith, takes)

pub loop-ending-preserved-in-Blank : goal.loop-ending-preserved-in-Blank
loop-ending-preserved-in-Blank c =
    let rest = c.loop-ending.rest.now in
    let parts = c.split_at.ensures in
    let near = moved c.loop-ending.place c.place_after-place.result c.split_at.result.0.now c.place_after-place.ensures in
    record {
      spelled = past_blank _ _ _ _ _ rest _ _ c.in-Blank.ensures parts.front parts.back c.place_after-place.ensures
          c.loop-ending.invariant.spelled;
      line = omega (arith, near.line, c.loop-ending.invariant.line);
      column = omega (arith, near.column, c.loop-ending.invariant.column);
    }

pub split_at-requires-in-Found : goal.split_at-requires-in-Found
split_at-requires-in-Found c =
    let takes = subst (λ h. Takes h c.loop-ending.rest.now) (sym c.in-Found.ensures) (head_takes c.loop-ending.rest.now) in
    (token_within _ _ c.loop-ending.rest.now takes).1

pub kind_of-requires : goal.kind_of-requires
kind_of-requires c =
    let takes = subst (λ h. Takes h c.loop-ending.rest.now) (sym c.in-Found.ensures) (head_takes c.loop-ending.rest.now) in
    λ is_word. subst IsAscii (sym c.split_at-in-Found.ensures.front) (word_is_ascii _ _ c.loop-ending.rest.now takes is_word)

pub loop-ending-smaller : goal.loop-ending-smaller
loop-ending-smaller c =
    let takes = subst (λ h. Takes h c.loop-ending.rest.now) (sym c.in-Found.ensures) (head_takes c.loop-ending.rest.now) in
    omega (arith, (token_within _ _ c.loop-ending.rest.now takes).0)

pub loop-ending-preserved : goal.loop-ending-preserved
loop-ending-preserved c =
    let rest = c.loop-ending.rest.now in
    let parts = c.split_at-in-Found.ensures in
    let at = c.place_after-place-in-Found in
    let near = moved c.loop-ending.place at.result c.split_at-in-Found.result.0.now at.ensures in
    record {
      spelled = past_token _ _ _ _ _ _ rest _ _ _ _ _ c.in-Found.ensures parts.front parts.back at.ensures
          c.in_ok-kind-in-Found.ensures c.in_ok-push-in-Found.ensures.ok c.loop-ending.invariant.spelled;
      line = omega (arith, near.line, c.loop-ending.invariant.line);
      column = omega (arith, near.column, c.loop-ending.invariant.column);
    }
