use Rattle.std.proofs.Common.{◌≡◌, codes, refl, arith, rules}
use Rattle.std.proofs.lemmas.Slice.Eq.{text_from_reads}
use Rattle.c_tokens.proofs.word.keyword_of.Goals as goal

pub returns-in-static : goal.returns-in-static
returns-in-static c =
    let e : c.args.text.now ≡ codes "static" = text_from_reads _ (codes "static") (omega arith) (search rules) in
    rw e refl

pub returns-in-masked : goal.returns-in-masked
returns-in-masked c =
    let e : c.args.text.now ≡ codes "masked" = text_from_reads _ (codes "masked") (omega arith) (search rules) in
    rw e refl

pub returns-in-117 : goal.returns-in-117
returns-in-117 c =
    let e : c.args.text.now ≡ codes "uint64_t" = text_from_reads _ (codes "uint64_t") (omega arith) (search rules) in
    rw e refl

pub returns-in-unsigned : goal.returns-in-unsigned
returns-in-unsigned c =
    let e : c.args.text.now ≡ codes "unsigned" = text_from_reads _ (codes "unsigned") (omega arith) (search rules) in
    rw e refl

pub returns-in-85 : goal.returns-in-85
returns-in-85 c =
    let e : c.args.text.now ≡ codes "UINT64_C" = text_from_reads _ (codes "UINT64_C") (omega arith) (search rules) in
    rw e refl

pub returns-in-116 : goal.returns-in-116
returns-in-116 c =
    let e : c.args.text.now ≡ codes "tornado_random" = text_from_reads _ (codes "tornado_random") (omega arith) (search rules) in
    rw e refl
