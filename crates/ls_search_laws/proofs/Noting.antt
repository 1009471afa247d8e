-- What is bad stays bad along events, and what is good at the end of the setup was good before.
use Rattle.std.proofs.Common.{◌≡◌, ℕ, ◌+◌, ◌-◌, Bool, true, false, List, [], ◌∷◌, ◌++◌, replicate}
use Rattle.std.proofs.Common.{fold, refl, ap, ◌∙◌, arith}
use Rattle.std.proofs.lemmas.List.Sums.{fold-append}
use Rattle.ls_events.specs.declared.event.Event.{Event}
use Rattle.ls_checked.specs.CheckedTree.{File}
use Rattle.ls_checked.specs.CheckedProgram.{Program}
use Rattle.ls_meaning.specs.Runs.{source_history}
use Rattle.ls_search_laws.specs.Stepping.{IsBefore}
use Rattle.ls_search_laws.specs.Noticing.{StaysBad}
use Rattle.ls_search_laws.proofs.Covering.{fewer_first}

-- what is bad stays bad along events
module _ {M : Type 0} (next : M → Event → M) (is_bad : M → Bool) (stays : StaysBad next is_bad) where
  bad_along : (h : List Event) (m : M) → is_bad m ≡ true → is_bad (fold next m h) ≡ true
  bad_along [] m bad = bad
  bad_along (e ∷ h) m bad = bad_along h (next m e) (stays m e bad)

  pub false_not_true : (b : Bool) → b ≡ false → b ≡ true → ⊥
  false_not_true b e f = cc

  pub by_truth : (b : Bool) → (b ≡ true → ⊥) → b ≡ false
  by_truth true not = absurd (not refl)
  by_truth false not = refl

  -- where more events are good, fewer are
  pub good_before : (m : M) (h rest : List Event) → is_bad (fold next m (h ++ rest)) ≡ false →
      is_bad (fold next m h) ≡ false
  good_before m h rest good = by_truth (is_bad (fold next m h)) (λ bad.
      false_not_true (is_bad (fold next m (h ++ rest))) good
      (ap is_bad (fold-append next m h rest) ∙ bad_along rest (fold next m h) bad))

-- before the setup's end it is good, where it is good at its end
pub good_early : {M : Type 0} (first : M) (next : M → Event → M) (file : File) (program : Program) (is_bad : M → Bool) →
    StaysBad next is_bad →
    (k : ℕ) (schedule : List ℕ) →
    IsBefore file program k schedule →
    is_bad (fold next first (source_history file program (replicate k 0))) ≡ false →
    is_bad (fold next first (source_history file program schedule)) ≡ false
good_early first next file program is_bad stays k schedule b good =
    let e : b.count + (k - b.count) ≡ k = omega (arith, b.fewer) in
    let more = fewer_first file program b.count (k - b.count) in
    good_before next is_bad stays first (source_history file program schedule) more.0
    (ap (λ l. is_bad (fold next first (l ++ more.0))) b.history
    ∙ ap (λ l. is_bad (fold next first l)) more.1
    ∙ ap (λ n. is_bad (fold next first (source_history file program (replicate n 0)))) e
    ∙ good)
