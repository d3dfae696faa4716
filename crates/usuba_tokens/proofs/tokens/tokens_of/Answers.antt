use Rattle.std.proofs.Common.{sym, subst, arith}
use Rattle.std.specs.Str.{IsAscii}
use Rattle.usuba_tokens.specs.Tokens.{ended, broken}
use Rattle.usuba_tokens.proofs.HeadLemmas.{Takes, head_takes, token_within, word_is_ascii}
use Rattle.usuba_tokens.proofs.PlaceLemmas.{moved}
use Rattle.usuba_tokens.proofs.SpellingLemmas.{complete, past_gap, past_token}
use Rattle.usuba_tokens.proofs.tokens.tokens_of.Goals as goal

pub returns-in-End : goal.returns-in-End
returns-in-End c = complete _ _ _ c.loop-tokens.rest.now _ c.loop-tokens.invariant.spelled (ended _ _ (sym c.in-End.ensures))

pub returns-in-Broken : goal.returns-in-Broken
returns-in-Broken c = complete _ _ _ c.loop-tokens.rest.now _ c.loop-tokens.invariant.spelled (broken _ _ (sym c.in-Broken.ensures))

pub split_at-requires : goal.split_at-requires
split_at-requires c = let takes = subst (λ h. Takes h c.loop-tokens.rest.now) (sym c.in-Gap.ensures) (head_takes c.loop-tokens.rest.now) in takes.1

pub loop-tokens-smaller-in-Gap : goal.loop-tokens-smaller-in-Gap
loop-tokens-smaller-in-Gap c =
    let takes = subst (λ h. Takes h c.loop-tokens.rest.now) (sym c.in-Gap.ensures) (head_takes c.loop-tokens.rest.now) in
    omega (arith, takes.0)

pub loop-tokens-preserved-in-Gap : goal.loop-tokens-preserved-in-Gap
loop-tokens-preserved-in-Gap c =
    let rest = c.loop-tokens.rest.now in
    let parts = c.split_at.ensures in
    let near = moved c.loop-tokens.place c.place_after-place.result c.split_at.result.0.now c.place_after-place.ensures in
    record {
      spelled = past_gap _ _ _ _ rest _ _ _ c.in-Gap.ensures parts.front parts.back c.place_after-place.ensures c.loop-tokens.invariant.spelled;
      line = omega (arith, near.line, c.loop-tokens.invariant.line);
      column = omega (arith, near.column, c.loop-tokens.invariant.column);
    }

pub split_at-requires-in-Found : goal.split_at-requires-in-Found
split_at-requires-in-Found c =
    let takes = subst (λ h. Takes h c.loop-tokens.rest.now) (sym c.in-Found.ensures) (head_takes c.loop-tokens.rest.now) in
    (token_within _ _ c.loop-tokens.rest.now takes).1

pub kind_of-requires : goal.kind_of-requires
kind_of-requires c =
    let takes = subst (λ h. Takes h c.loop-tokens.rest.now) (sym c.in-Found.ensures) (head_takes c.loop-tokens.rest.now) in
    λ is_word. subst IsAscii (sym c.split_at-in-Found.ensures.front) (word_is_ascii _ _ c.loop-tokens.rest.now takes is_word)

pub loop-tokens-smaller : goal.loop-tokens-smaller
loop-tokens-smaller c =
    let takes = subst (λ h. Takes h c.loop-tokens.rest.now) (sym c.in-Found.ensures) (head_takes c.loop-tokens.rest.now) in
    omega (arith, (token_within _ _ c.loop-tokens.rest.now takes).0)

pub loop-tokens-preserved : goal.loop-tokens-preserved
loop-tokens-preserved c =
    let rest = c.loop-tokens.rest.now in
    let parts = c.split_at-in-Found.ensures in
    let near = moved c.loop-tokens.place c.place_after-place-in-Found.result c.split_at-in-Found.result.0.now c.place_after-place-in-Found.ensures in
    let kind = c.in_ok-kind-in-Found.ensures in
    let pushed = c.in_ok-push-in-Found.ensures in
    record {
      spelled = past_token _ _ _ _ _ rest _ _ _ _ _ c.in-Found.ensures parts.front parts.back c.place_after-place-in-Found.ensures kind pushed.ok c.loop-tokens.invariant.spelled;
      line = omega (arith, near.line, c.loop-tokens.invariant.line);
      column = omega (arith, near.column, c.loop-tokens.invariant.column);
    }
