-- A half as callers see it.
use Rattle.std.specs.Prelude.{ℕ}
use Rattle.sec_ast.specs.declared.listing.Listing.{Listing}
use Rattle.web_parts.specs.declared.transaction.Request.{Request}

pub record HalfView : Type 0 where
  pub generation : ℕ
  pub listing : Listing
  pub request : Request
