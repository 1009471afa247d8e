-- What is left of a history.
use Rattle.std.proofs.Common.{◌≡◌, ◌<◌, ◌≤◌, ℕ, zero, suc, Bool, true, false, List, [], ◌∷◌, None, Some, drop, length}
use Rattle.std.proofs.Common.{refl, sym, ap, ◌∙◌, arith}
use Rattle.std.specs.List.{fold}
use Rattle.std.specs.Prelude.{if◌then◌else◌}
use Rattle.ls_events.specs.declared.event.Event.{Event}
use Rattle.ls_linearizable.proofs.Same.{event_test}
use Rattle.ls_linearizable.specs.Same.{same_event}
use Rattle.ls_fewest_switches.specs.Along.{is_whole, left_after, left_of}

-- nothing is left of a history of which all events have come
pub whole_past : (h : List Event) (done : ℕ) → length h ≤ done → is_whole (Some (drop done h)) ≡ true
whole_past [] zero past = refl
whole_past [] (suc n) past = refl
whole_past (e ∷ h) zero past = absurd (omega (arith, past))
whole_past (e ∷ h) (suc n) past = whole_past h n (omega (arith, past))

-- something is left of one of which not all have
pub not_whole : (h : List Event) (done : ℕ) → done < length h → is_whole (Some (drop done h)) ≡ false
not_whole [] done within = absurd (omega (arith, within))
not_whole (e ∷ h) zero within = refl
not_whole (e ∷ h) (suc n) within = not_whole h n (omega (arith, within))

not_both : {b : Bool} → b ≡ false → b ≡ true → ⊥
not_both e f = cc

-- where events have come that aren't the history's, it is never whole
pub never_whole : (h : List Event) → is_whole (fold left_after None h) ≡ false
never_whole [] = refl
never_whole (e ∷ h) = never_whole h

-- the events that make it whole are its own
pub whole_is : (h es : List Event) → is_whole (fold left_after (Some h) es) ≡ true → es ≡ h
whole_is [] [] whole = refl
whole_is (x ∷ h) [] whole = absurd (not_both refl whole)
whole_is [] (e ∷ es) whole = absurd (not_both (never_whole es) whole)
whole_is (x ∷ h) (e ∷ es) whole = by (same_event x e) refl (λ rest. whole_is h es rest)
  where
    by : (b : Bool) → same_event x e ≡ b → (is_whole (fold left_after (Some h) es) ≡ true → es ≡ h) → e ∷ es ≡ x ∷ h
    by true is more =
        let left : left_of (x ∷ h) e ≡ Some h = ap (λ b. if b then Some h else None) is in
        let rest : es ≡ h = more (ap (λ o. is_whole (fold left_after o es)) (sym left) ∙ whole) in
        let same : x ≡ e = (event_test x e).0 is in
        ap (λ y. y ∷ es) (sym same) ∙ ap (λ l. x ∷ l) rest
    by false is more =
        let left : left_of (x ∷ h) e ≡ None = ap (λ b. if b then Some h else None) is in
        absurd (not_both (ap (λ o. is_whole (fold left_after o es)) left ∙ never_whole es) whole)

-- and those make it whole
pub whole_at : (h : List Event) → is_whole (fold left_after (Some h) h) ≡ true
whole_at [] = refl
whole_at (x ∷ h) =
    let left : left_of (x ∷ h) x ≡ Some h = ap (λ b. if b then Some h else None) ((event_test x x).1 refl) in
    ap (λ o. is_whole (fold left_after o h)) left ∙ whole_at h
