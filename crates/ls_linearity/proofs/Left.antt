-- Whether no pair is left, one event more.
use Rattle.std.proofs.Common.{◌≡◌, ◌||◌, ◌∙◌, ◌+◌, ◌<◌, ℕ, true, List, [], ◌∷◌, length, take, drop}
use Rattle.std.proofs.Common.{ap, get_or, sym, take-append-drop}
use Rattle.std.proofs.lemmas.List.Sums.{fold_more, fold-append}
use Rattle.std.specs.List.{fold}
use Rattle.std.specs.declared.vec.Vec.{Vec}
use Rattle.std.specs.declared.alloc.Global.{Global}
use Rattle.ls_events.specs.declared.event.Event.{Event}
use Rattle.ls_automaton.specs.declared.outcome.Outcome.{Outcome}
use Rattle.ls_automaton.specs.declared.pairs.Pair.{Pair}
use Rattle.ls_automaton.specs.Held.{first_held, helds_of, leaves_none}
use Rattle.ls_linearizable.specs.Judging.{Verdict, later, now}
use Rattle.ls_linearity.specs.Followed.{IsLostAt, is_lost}

-- what is bad stays bad
stays_bad : (v : Verdict) (h : List Event) → now v ≡ true → now (fold later v h) ≡ true
stays_bad v [] bad = bad
stays_bad v (e ∷ h) bad = stays_bad (later v e) h (ap (λ b. b || v (e ∷ [])) bad)

module _ (rows : List (Vec Outcome Global)) where
  abbrev after : List Event → Verdict
  after h = fold later (leaves_none rows (first_held ∷ [])) h

  -- what is left after the event at a place
  pub one_more : (h : List Event) (at : ℕ) (d : Event) (pairs left : List Pair) → at < length h →
      leaves_none rows (helds_of pairs) ≡ after (take at h) →
      leaves_none rows (helds_of left) ≡ later (leaves_none rows (helds_of pairs)) (get_or h at d) →
      leaves_none rows (helds_of left) ≡ after (take (at + 1) h)
  one_more h at d pairs left lt so then =
      then ∙ ap (λ v. later v (get_or h at d)) so
      ∙ sym (fold_more later (leaves_none rows (first_held ∷ [])) h at d lt)

  -- where none is left after the first events, none is after all
  pub lost_in_all : (h : List Event) (at : ℕ) → IsLostAt rows h at → is_lost rows h ≡ true
  lost_in_all h at lost =
      ap (is_lost rows) (sym (take-append-drop (at + 1) h))
      ∙ ap now (fold-append later (leaves_none rows (first_held ∷ [])) (take (at + 1) h) (drop (at + 1) h))
      ∙ stays_bad (after (take (at + 1) h)) (drop (at + 1) h) lost.with_it
