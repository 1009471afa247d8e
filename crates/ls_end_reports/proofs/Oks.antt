-- What holds where a call succeeds.
use Rattle.std.specs.Prelude.{OnOk, Result, Ok, Err}

pub on_ok : {A E : Type 0} {P Q : Type 0} (r : Result A E) → (P → Q) → OnOk r P → OnOk r Q
on_ok (Ok x) f p = f p
on_ok (Err e) f p = tt
