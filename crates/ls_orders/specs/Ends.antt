-- How calls end, kept by their numbers and the names of their threads.
use Rattle.std.specs.Prelude.{◌==◌, ◌&&◌, ℕ, List, unwrap_or}
use Rattle.std.specs.HashMap.{HashMap, get_by}
use Rattle.std.specs.Str.{bytes_eq}
use denote.Ref.{Bor}
use Rattle.ls_report.specs.Events.{Text}
use Rattle.ls_orders.specs.declared.calls.End.{End}
use Rattle.ls_orders.specs.declared.calls.End.TheVariants.{Pending}

-- a call's number and its thread's name
abbrev pub CallKey : Type 0
CallKey = ℕ × Bor (List ℕ)

-- how the call ends; a call that the map doesn't have is pending
abbrev pub ended : {S : Type 0} → HashMap CallKey End S → Text → ℕ → End
ended ends thread call =
    unwrap_or (get_by (λ key. call == key.0 && bytes_eq thread key.1.now) ends) Pending
