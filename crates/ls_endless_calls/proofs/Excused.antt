-- Histories that are marked as excused.
use Rattle.std.proofs.Common.{◌≡◌, ◌⊎◌, inl, inr, ℕ, ◌+◌, Bool, true, List, [], ◌∷◌, ◌++◌, length, Some}
use Rattle.std.proofs.Common.{refl, sym, ap, ◌∙◌, subst}
use Rattle.std.specs.Prelude.{slice_get}
use Rattle.std.proofs.lemmas.List.{length-append}
use Rattle.std.specs.Bool.{IsTrue}
use Rattle.std.specs.declared.vec.Vec.{Vec}
use Rattle.std.specs.declared.alloc.Global.{Global}
use Rattle.ls_checked.specs.CheckedTree.{File}
use Rattle.ls_checked.specs.CheckedProgram.{Program}
use Rattle.ls_events.specs.declared.event.Event.{Event}
use Rattle.ls_search.proofs.Pairs.{pushed_where}
use Rattle.ls_serial_search.specs.Endless.{TellEndlessRuns}
use Rattle.ls_serial_search.specs.Histories.{lists_of}
use Rattle.ls_endless_calls.specs.Laws.{NeverEndsIsAmong, NeverEndsSo}
use Rattle.ls_endless_calls.specs.Waits.{AreExcused, IsPending, IsUnexcused}

some_is : {A : Type 0} {x y : A} → Some x ≡ Some y → x ≡ y
some_is h = cc

-- where a history is marked, it is excused
abbrev pub AreMarked : List (List Event) → List (Vec Event Global) → List Bool → Type 0
AreMarked runs histories marks = (i : ℕ) (h : Vec Event Global) → slice_get histories i ≡ Some h →
    slice_get marks i ≡ Some true → AreExcused runs h.items

-- one mark more
pub marked_more : (runs : List (List Event)) (histories : List (Vec Event Global)) (marks more : List Bool)
    (mark : Bool) (h : Vec Event Global) → AreMarked runs histories marks → more ≡ marks ++ mark ∷ [] →
    slice_get histories (length marks) ≡ Some h →
    (IsTrue mark → AreExcused runs h.items) →
    AreMarked runs histories more
marked_more runs histories marks more mark h old is at so i g there marked =
    by_place (pushed_where marks mark i true (ap (λ l. slice_get l i) (sym is) ∙ marked))
  where
    by_place : (slice_get marks i ≡ Some true) ⊎ ((i ≡ length marks) × (mark ≡ true)) → AreExcused runs g.items
    by_place (inl before) = old i g there before
    by_place (inr last) =
        let same : h ≡ g = some_is (sym at ∙ ap (slice_get histories) (sym last.0) ∙ there) in
        subst (λ (v : Vec Event Global). AreExcused runs v.items) same (so (subst IsTrue (sym last.1) refl))

pub push_length : (marks more : List Bool) (mark : Bool) → more ≡ marks ++ mark ∷ [] → length more ≡ length marks + 1
push_length marks more mark is = ap length is ∙ length-append marks (mark ∷ [])

-- a call that is pending, and isn't the last of one of the runs, which are all
pub unexcused_call : (sfile : File) (sprogram : Program) (runs kept : List (Vec Event Global)) (h g : List Event) →
    NeverEndsIsAmong → runs ≡ kept → h ≡ g → TellEndlessRuns sfile sprogram (lists_of kept) →
    ((place : ℕ) × IsUnexcused (lists_of runs) h place) →
    (c : Event) × IsPending g c × (NeverEndsSo sfile sprogram g c → ⊥)
unexcused_call sfile sprogram runs kept h g all same is tell u =
    let one : IsUnexcused (lists_of kept) g u.0 =
    subst (λ (l : List Event). IsUnexcused (lists_of kept) l u.0) is
    (subst (λ (vs : List (Vec Event Global)). IsUnexcused (lists_of vs) h u.0) same u.1) in
    (one.call, one.pending, λ so. one.unexcused (all sfile sprogram (lists_of kept) g one.call tell so))
