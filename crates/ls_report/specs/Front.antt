-- What is kept of the events that are read so far.
use Rattle.std.specs.Prelude.{◌≡◌, ◌<◌, ℕ, IfSome, List, Option, find, length, reverse, slice_get}
use Rattle.std.specs.HashMap.{HashMap, get_by}
use Rattle.std.specs.Option.{option_and_then}
use Rattle.std.specs.Str.{bytes_eq}
use denote.Ref.{Bor}
use Rattle.ls_report.specs.Events.{Text}
use Rattle.ls_report.specs.declared.front.Front.{Front}

-- the place that is kept under the name
abbrev pub place_of : {S : Type 0} → HashMap (Bor (List ℕ)) ℕ S → Text → Option ℕ
place_of places thread = get_by (λ key. bytes_eq thread key.now) places

-- Each name is kept with the place of the last event of its thread, and no other name is kept.
pub record IsIndexed (front : Front) : Type 0 where
  pub last : (thread : Text) → option_and_then (slice_get front.events.items) (place_of front.places thread)
      ≡ find (λ e. bytes_eq e.thread.now thread) (reverse front.events.items)
  pub within : (thread : Text) → IfSome (place_of front.places thread) (λ place. place < length front.events.items)
