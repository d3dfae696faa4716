use Rattle.std.proofs.Common.{◌≡◌, codes, refl, arith, rules}
use Rattle.std.proofs.lemmas.Slice.Eq.{text_from_reads}
use Rattle.usuba_tokens.proofs.word.keyword_of.Goals as goal

pub returns-in-forall : goal.returns-in-forall
returns-in-forall c =
    let e : c.args.text.now ≡ codes "forall" = text_from_reads _ (codes "forall") (omega arith) (search rules) in
    rw e refl

pub returns-in-returns : goal.returns-in-returns
returns-in-returns c =
    let e : c.args.text.now ≡ codes "returns" = text_from_reads _ (codes "returns") (omega arith) (search rules) in
    rw e refl

pub returns-in-refresh : goal.returns-in-refresh
returns-in-refresh c =
    let e : c.args.text.now ≡ codes "refresh" = text_from_reads _ (codes "refresh") (omega arith) (search rules) in
    rw e refl

pub returns-in-95 : goal.returns-in-95
returns-in-95 c =
    let e : c.args.text.now ≡ codes "_inline" = text_from_reads _ (codes "_inline") (omega arith) (search rules) in
    rw e refl

pub returns-in-95-2 : goal.returns-in-95-2
returns-in-95-2 c =
    let e : c.args.text.now ≡ codes "_no_inline" = text_from_reads _ (codes "_no_inline") (omega arith) (search rules) in
    rw e refl
