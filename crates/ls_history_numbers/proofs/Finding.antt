-- A history with one event more is looked for.
use Rattle.std.proofs.Common.{◌≡◌, ℕ, ◌<◌, ◌≤◌, Bool, true, List, [], ◌∷◌, ◌++◌, length, Some, sym, ap, ◌∙◌}
use Rattle.std.proofs.Common.{arith, ◌⊎◌, inl, inr, get_or}
use Rattle.std.specs.Prelude.{Contains, Decides, slice_get}
use Rattle.std.proofs.lemmas.Bool.{cases_lt}
use Rattle.std.proofs.lemmas.Option.{slice_get-get_or}
use Rattle.ls_events.specs.declared.event.Event.{Event}
use Rattle.ls_history_numbers.specs.declared.numbering.Known.{Known}
use Rattle.ls_history_numbers.specs.Numbers.{AreNumbered, HasNone, IsLonger, IsOf}
use Rattle.ls_history_numbers.proofs.Lists.{at_there, below, not_empty, one_less, some_is}

-- a place among the longer ones
pub longer_there : (p : Known) (longer : List ℕ) → longer ≡ p.longer.items → (at : ℕ) → at < length longer →
    Contains p.longer.items (get_or longer at 0)
longer_there p longer is at less =
    at_there p.longer.items at (get_or longer at 0)
    (ap (λ l. slice_get l at) (sym is) ∙ slice_get-get_or longer at 0 less)

pub longer_within : (all : List Known) → AreNumbered all → (number : ℕ) (p : Known) → slice_get all number ≡ Some p →
    (longer : List ℕ) → longer ≡ p.longer.items → (at : ℕ) → at < length longer →
    get_or longer at 0 < length all
longer_within all h number p p_is longer is at less =
    let k = h.known number (get_or longer at 0) p p_is (longer_there p longer is at less) in
    below all (get_or longer at 0) k.0 k.1

module _ (all : List Known) (h : AreNumbered all) (number : ℕ) (p : Known) (p_is : slice_get all number ≡ Some p)
    (event : Event) where
  -- one of the longer ones that has the event
  pub found : (n : ℕ) (result : Bool) → Contains p.longer.items n → result ≡ true →
      ((k : Known) (g : List Event) (e : Event) → slice_get all n ≡ Some k → k.events.items ≡ g ++ e ∷ [] →
      Decides result (e ≡ event)) →
      IsOf all n (p.events.items ++ event ∷ [])
  found n result c is_so tells =
      let k = h.known number n p p_is c in
      let l : IsLonger all n k.0 = h.made n k.0 k.1 k.3 in
      let same : l.from ≡ p = some_is (sym l.from_is ∙ ap (slice_get all) k.2 ∙ p_is) in
      let d : l.last ≡ event = (tells k.0 l.from.events.items l.last k.1 l.is).0 is_so in (
        k.0,
        k.1,
        l.is
            ∙ ap (λ (q : Known). q.events.items ++ l.last ∷ []) same
            ∙ ap (λ e. p.events.items ++ e ∷ []) d,
      )

  -- where none of them has it, isnt history is so
  pub not_found : ((n : ℕ) → Contains p.longer.items n → (k : Known) (g : List Event) (e : Event) →
      slice_get all n ≡ Some k → k.events.items ≡ g ++ e ∷ [] → (e ≡ event → ⊥)) →
      HasNone all (p.events.items ++ event ∷ [])
  not_found none n k k_is is = by_place (cases_lt 0 n)
    where
      by_place : (0 < n) ⊎ (n ≤ 0) → ⊥
      by_place (inl later) =
          let l : IsLonger all n k = h.made n k k_is later in
          let both = one_less l.from.events.items p.events.items l.last event (sym l.is ∙ is) in
          let from_here : k.before ≡ number = h.apart k.before number l.from p l.from_is p_is both.0 in
          let c : Contains p.longer.items n =
          h.listed n k p k_is later (ap (slice_get all) from_here ∙ p_is) in
          none n c k l.from.events.items l.last k_is l.is both.1
      by_place (inr first) =
          let zero_is : n ≡ 0 = omega (arith, first) in
          let same : h.none.0 ≡ k = some_is (sym h.none.1 ∙ ap (slice_get all) (sym zero_is) ∙ k_is) in
          not_empty p.events.items event
          (sym is ∙ ap (λ (q : Known). q.events.items) (sym same) ∙ h.none.2)
