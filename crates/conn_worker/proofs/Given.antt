-- What an answer that is Ok gives.
use Rattle.std.proofs.Common.{◌≡◌, true, false, IfOk, is_ok, Result, Ok, Err}

pub given : {A E : Type 0} (F : A → Type 0) (r : Result A E) → IfOk r F → is_ok r ≡ true → (x : A) × F x
given F (Ok x) h e = (x, h)
given F (Err fault) h e = absurd (let k : false ≡ true = e in cc)
