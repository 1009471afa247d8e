-- The serial runs of rows.
use Rattle.std.proofs.Common.{◌≡◌, ◌⊎◌, ◌↔◌, inl, inr, ℕ, ◌+◌, ◌<◌, List, [], ◌∷◌, ◌++◌, Contains, length, take}
use Rattle.std.proofs.Common.{Bool, Decides, slice_index_or, zero, suc, refl, sym, ap, ◌∙◌, subst, arith}
use Rattle.std.specs.List.{AllZip}
use Rattle.std.proofs.lemmas.List.{map-append, take_more}
use Rattle.std.proofs.lemmas.List.Elements.{Contains-append_left, Contains-push, Contains-push_cases}
use Rattle.ls_events.specs.declared.event.Event.{Event}
use Rattle.ls_serial.specs.Serial.{HaveBeginning, IsExplainedBy, IsSerial}
use Rattle.ls_events.specs.Beginnings.{IsBeginning}
use Rattle.ls_explore.specs.Rows.{Told}
use Rattle.ls_explore_reports.specs.Rows.{histories}

-- the history of a row is one of the histories
pub history_there : (rows : List Told) (r : Told) → Contains rows r → Contains (histories rows) r.history
history_there [] r (k, lt, e) = absurd (omega arith)
history_there (x ∷ rows) r (zero, lt, e) = (zero, omega arith, ap (λ (t : Told). t.history) e)
history_there (x ∷ rows) r (suc k, lt, e) =
    let there = history_there rows r (k, omega arith, e) in (suc there.0, omega (arith, there.1), there.2)

-- each of the histories is a row's
pub row_of_history : (rows : List Told) (h : List Event) →
    Contains (histories rows) h →
    (r : Told) × Contains rows r × (r.history ≡ h)
row_of_history [] h (k, lt, e) = absurd (omega arith)
row_of_history (x ∷ rows) h (zero, lt, e) = (x, (zero, omega arith, refl), e)
row_of_history (x ∷ rows) h (suc k, lt, e) =
    let r = row_of_history rows h (k, omega arith, e) in (r.0, (suc r.1.0, omega (arith, r.1.1), r.1.2), r.2)

-- one run more has its beginnings more
run_more : (runs : List (List Event)) (run g : List Event) →
    HaveBeginning (runs ++ run ∷ []) g ↔ (HaveBeginning runs g ⊎ IsBeginning g run)
run_more runs run g = (to, from)
  where
    to : HaveBeginning (runs ++ run ∷ []) g → HaveBeginning runs g ⊎ IsBeginning g run
    to b = by_place (Contains-push_cases runs run b.run b.there)
      where
        by_place : Contains runs b.run ⊎ (run ≡ b.run) → HaveBeginning runs g ⊎ IsBeginning g run
        by_place (inl there) = inl (record { run = b.run; there = there; begins = b.begins })
        by_place (inr same) = inr (subst (IsBeginning g) (sym same) b.begins)

    from : HaveBeginning runs g ⊎ IsBeginning g run → HaveBeginning (runs ++ run ∷ []) g
    from (inl b) = record {
      run = b.run;
      there = Contains-append_left runs (run ∷ []) b.run b.there;
      begins = b.begins;
    }
    from (inr b) = record { run = run; there = Contains-push runs run; begins = b }

-- one row more has its history's beginnings more
pub row_more : (rows : List Told) (i : ℕ) (d : Told) →
    i < length rows →
    histories (take (i + 1) rows) ≡ histories (take i rows) ++ (slice_index_or rows i d).history ∷ []
row_more rows i d lt =
    ap histories (take_more rows i d lt) ∙
    map-append (λ (r : Told). r.history) (take i rows) (slice_index_or rows i d ∷ [])

-- the runs so far, and one more, as the rows so far, and one more
pub alike_more : (runs more : List (List Event)) (rows : List Told) (i : ℕ) (d : Told) (history : List Event) →
    i < length rows →
    history ≡ (slice_index_or rows i d).history →
    ((g : List Event) → IsSerial g → HaveBeginning runs g ↔ HaveBeginning (histories (take i rows)) g) →
    ((g : List Event) → IsSerial g → HaveBeginning more g ↔ (HaveBeginning runs g ⊎ IsBeginning g history)) →
    (g : List Event) →
    IsSerial g →
    HaveBeginning more g ↔ HaveBeginning (histories (take (i + 1) rows)) g
alike_more runs more rows i d history lt is so_far added g serial = (
  λ b. subst (λ rs. HaveBeginning rs g) (sym (row_more rows i d lt))
      ((run_more (histories (take i rows)) (slice_index_or rows i d).history g).1 (to ((added g serial).0 b))),
  λ b. (added g serial).1 (from ((run_more (histories (take i rows)) (slice_index_or rows i d).history g).0
      (subst (λ rs. HaveBeginning rs g) (row_more rows i d lt) b))),
)
  where
    to : HaveBeginning runs g ⊎ IsBeginning g history →
        HaveBeginning (histories (take i rows)) g ⊎ IsBeginning g (slice_index_or rows i d).history
    to (inl b) = inl ((so_far g serial).0 b)
    to (inr b) = inr (subst (IsBeginning g) is b)

    from : HaveBeginning (histories (take i rows)) g ⊎ IsBeginning g (slice_index_or rows i d).history →
        HaveBeginning runs g ⊎ IsBeginning g history
    from (inl b) = inl ((so_far g serial).1 b)
    from (inr b) = inr (subst (IsBeginning g) (sym is) b)

no_runs : (runs : List (List Event)) (g : List Event) → runs ≡ [] → HaveBeginning runs g → ⊥
no_runs runs g none b = nowhere (subst (λ rs. Contains rs b.run) none b.there)
  where
    nowhere : Contains [] b.run → ⊥
    nowhere (k, lt, e) = omega arith

-- at first there are none
pub alike_first : (runs : List (List Event)) (rows : List Told) →
    runs ≡ [] →
    (g : List Event) →
    IsSerial g →
    HaveBeginning runs g ↔ HaveBeginning (histories (take 0 rows)) g
alike_first runs rows none g serial = (λ b. absurd (no_runs runs g none b), λ b. absurd (no_runs _ g (no_rows rows) b))
  where
    no_rows : (rs : List Told) → histories (take 0 rs) ≡ []
    no_rows [] = refl
    no_rows (r ∷ rs) = refl

-- runs with the same serial beginnings explain the same
pub explain_alike : (runs others : List (List Event)) (h : List Event) →
    ((g : List Event) → IsSerial g → HaveBeginning runs g → HaveBeginning others g) →
    IsExplainedBy runs h →
    IsExplainedBy others h
explain_alike runs others h same e = (
  e.0,
  record { begun = same e.0 e.1.serial e.1.begun; serial = e.1.serial; explains = e.1.explains },
)

pub decide_alike : (b : Bool) (runs others : List (List Event)) (h h' : List Event) →
    h ≡ h' →
    ((g : List Event) → IsSerial g → HaveBeginning runs g ↔ HaveBeginning others g) →
    Decides b (IsExplainedBy runs h) →
    Decides b (IsExplainedBy others h')
decide_alike b runs others h h' is same d = (
  λ yes. subst (IsExplainedBy others) is (explain_alike runs others h (λ g serial. (same g serial).0) (d.0 yes)),
  λ e. d.1 (explain_alike others runs h (λ g serial. (same g serial).1) (subst (IsExplainedBy others) (sym is) e)),
)

-- one flag more for one row more
flag_more : (R : Told → Bool → Type 0) (rows : List Told) (flags : List Bool) (r : Told) (b : Bool) →
    AllZip R rows flags →
    R r b →
    AllZip R (rows ++ r ∷ []) (flags ++ b ∷ [])
flag_more R [] [] r b all one = (one, tt)
flag_more R [] (c ∷ flags) r b all one = absurd all
flag_more R (q ∷ rows) [] r b all one = absurd all
flag_more R (q ∷ rows) (c ∷ flags) r b all one = (all.0, flag_more R rows flags r b all.1 one)

pub flagged_more : (R : Told → Bool → Type 0) (rows : List Told) (flags : List Bool) (i : ℕ) (r : Told) (b : Bool) →
    i < length rows →
    r ≡ slice_index_or rows i r →
    AllZip R (take i rows) flags →
    R r b →
    AllZip R (take (i + 1) rows) (flags ++ b ∷ [])
flagged_more R rows flags i r b lt is all one =
    subst (λ rs. AllZip R rs (flags ++ b ∷ []))
    (ap (λ x. take i rows ++ x ∷ []) is ∙ sym (take_more rows i r lt)) (flag_more R (take i rows) flags r b all one)
