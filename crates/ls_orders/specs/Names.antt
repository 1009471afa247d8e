-- Set calls by their texts.
use Rattle.std.specs.Prelude.{◌≡◌, ◌==◌, ◌-◌, ◌<◌, ◌^◌, ℕ, List, Option, None, slice_get}
use Rattle.std.specs.Prelude.{slice_index_or, if◌then◌else◌}
use Rattle.std.specs.HashMap.{HashMap, get_by}
use Rattle.std.specs.Option.{option_map_or}
use Rattle.std.specs.Str.{bytes_eq}
use Rattle.std.specs.Global.{Vec}
use denote.Ref.{Bor}
use Rattle.ls_report.specs.Events.{Text}
use Rattle.ls_report.specs.Lines.{call_text}
use Rattle.ls_orders.specs.declared.calls.SetCall.{SetCall}

-- for a thread's name, the places of its set calls by their numbers
abbrev pub Places : Type 0 → Type 0
Places S = HashMap (Bor (List ℕ)) (Vec ℕ) S

-- the place at a number; 0 where there is none
abbrev pub numbered : List ℕ → ℕ → ℕ
numbered places number = slice_index_or places number 0

-- the place of the thread's set call with this number; 0 where there is none
abbrev pub place_of : {S : Type 0} → Places S → Text → ℕ → ℕ
place_of names thread number =
    option_map_or (λ v. numbered v.items number) (get_by (λ key. bytes_eq thread key.now) names) 0

-- the call at a place, which is counted from 1
abbrev pub placed : List SetCall → ℕ → Option SetCall
placed calls place = if place == 0 then None else slice_get calls (place - 1)

-- The calls with their places are found by their texts as `look` finds them.
pub record IsNamed {S : Type 0} (look : Text → Option SetCall) (calls : List SetCall) (names : Places S) : Type 0 where
  pub known : (thread : Text) (number : ℕ) →
      number < 2 ^ 64 →
      look (call_text thread number) ≡ placed calls (place_of names thread number)
  -- another text is no call's
  pub other : (text : Text) →
      ((thread : Text) (number : ℕ) → number < 2 ^ 64 → text ≡ call_text thread number → ⊥) →
      look text ≡ None
