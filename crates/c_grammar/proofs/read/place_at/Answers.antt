use Rattle.std.proofs.Common.{◌∙◌, ap, sym}
use Rattle.c_grammar.proofs.Places.{place_of_token, place_of_end, place_of_broken}
use Rattle.c_grammar.specs.Grammar.{place_at}
use Rattle.c_grammar.proofs.read.place_at.Goals as goal

pub returns-then-at-tokens : goal.returns-then-at-tokens
returns-then-at-tokens c = place_of_token c.args.tokens.now c.args.ending c.args.at c.index-tokens-at.result c.if-at-tokens.true

pub returns-in-End : goal.returns-in-End
returns-in-End c =
    place_of_end c.args.tokens.now c.in-End.place c.args.at c.if-at-tokens.false ∙
    ap (λ end. place_at c.args.tokens.now end c.args.at) (sym c.in-End.is)

pub returns-in-Broken : goal.returns-in-Broken
returns-in-Broken c =
    place_of_broken c.args.tokens.now c.in-Broken.place c.args.at c.if-at-tokens.false ∙
    ap (λ end. place_at c.args.tokens.now end c.args.at) (sym c.in-Broken.is)
