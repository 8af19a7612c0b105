use Rattle.std.specs.Prelude.{ℕ, List}

-- what a framer is seen as: the longest frame that it takes, and the bytes that it holds
pub record Held : Type 0 where
  pub limit : ℕ
  pub bytes : List ℕ
