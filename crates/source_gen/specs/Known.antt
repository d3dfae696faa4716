-- Small generated sources that are known by hand.
use Rattle.std.specs.Prelude.{◌≡◌, ◌++◌, codes}
use Rattle.source_gen.specs.Source.{generated_source}

-- what is known of them: the first draws from the seed 1, modulo 8 and 9, are 5, 1, 1 and 1, 3, 6
pub record KnownSources : Type 0 where
  pub one_line : generated_source 1 1 ≡ codes "node g (x:b8) returns (z:b1)\nlet\n  z[0] = (x[5] ^ x[1]) & x[1];\ntel\n"
  pub two_lines : generated_source 1 2
      ≡ codes "node g (x:b8) returns (z:b2)\nlet\n" ++ codes "  z[0] = (x[5] ^ x[1]) & x[1];\n"
      ++ codes "  z[1] = (x[1] ^ x[3]) & x[6];\n" ++ codes "tel\n"
