-- The numbers of a run's store and works stand for its configuration.
use Rattle.std.proofs.Common.{◌≡◌, ◌⊎◌, inl, inr, ℕ, ◌<◌, ◌≤◌, List, [], ◌∷◌, ◌++◌, length, map, Option, None, Some}
use Rattle.std.proofs.Common.{refl}
use Rattle.std.proofs.Common.{sym, ap, ◌∙◌, arith}
use Rattle.std.specs.Prelude.{slice_get, slice_index_or}
use Rattle.std.proofs.lemmas.Bool.{cases_lt}
use Rattle.std.proofs.lemmas.List.{length-map}
use Rattle.std.proofs.lemmas.Option.{get_or_from_slice_get, slice_get_past}
use Rattle.ls_checked.specs.CheckedTree.{File}
use Rattle.ls_checked.specs.CheckedProgram.{Program}
use Rattle.ls_checked.specs.Plain.{plain_file}
use Rattle.ls_checked.specs.PlainProgram.{plain_program}
use Rattle.ls_meaning.specs.Course.{Answers}
use Rattle.ls_meaning.specs.Runs.{answers_of}
use Rattle.ls_meaning.specs.Threads.{next}
use Rattle.ls_search_laws.specs.Configuration.{configuration_of}
use Rattle.ls_source_store.specs.SeenStore.{store_of}
use Rattle.ls_source.specs.declared.playing.Playing.{Playing}
use Rattle.ls_source.specs.Calls.{Thread}
use Rattle.ls_source.specs.Kept.{means}
use Rattle.ls_source.specs.Progress.{Progress}
use Rattle.ls_source.specs.SeenThread.{thread_of}
use Rattle.ls_source.specs.Stands.{StandsFor}
use Rattle.ls_transitions.specs.Tables.{Table, Grows}
use Rattle.ls_transitions.proofs.Keeping.{below, there}
use Rattle.ls_search.specs.Places.{AreThere, configuration_at, goes_with, no_store}
use Rattle.ls_search.proofs.Pairs.{pushed_where}
use Rattle.ls_search.specs.Runs.{AreNumbered}

none_not : {A : Type 0} {x : A} → None ≡ Some x → ⊥
none_not h = cc

pub none_numbered : (t : Table) (works : List ℕ) (threads : List Thread) → works ≡ [] → AreNumbered t works threads
none_numbered t works threads none i work e = absurd (none_not (ap (λ (l : List ℕ). slice_get l i) (sym none) ∙ e))

pub numbered_more : (t t' : Table) (works more : List ℕ) (threads : List Thread) (work : ℕ) (x : Thread) →
    AreNumbered t works threads →
    Grows t t' →
    slice_get t'.works work ≡ Some x →
    slice_get threads (length works) ≡ Some x →
    more ≡ works ++ work ∷ [] →
    AreNumbered t' more threads
numbered_more t t' works more threads work x h grows here thread with_more i w e =
    by_place (pushed_where works work i w (ap (λ (l : List ℕ). slice_get l i) (sym with_more) ∙ e))
  where
    by_place : (slice_get works i ≡ Some w) ⊎ ((i ≡ length works) × (work ≡ w)) →
        (y : Thread) × (slice_get threads i ≡ Some y) × (slice_get t'.works w ≡ Some y)
    by_place (inl old) = let was = h i w old in (was.0, was.1, grows.works w was.0 was.2)
    by_place (inr (last, same)) =
        (x, ap (slice_get threads) last ∙ thread, ap (slice_get t'.works) (sym same) ∙ here)

pub numbered_there : (t : Table) (store : ℕ) (works : List ℕ) (threads : List Thread) →
    store < length t.stores →
    AreNumbered t works threads →
    AreThere t store works
numbered_there t store works threads within h = record {
  store_there = within;
  works_there = λ u work e. let x = h u work e in below t.works work x.0 x.2;
}

module _ (r : Playing) (t : Table) (store : ℕ) (works : List ℕ)
    (numbered : AreNumbered t works (map thread_of r.threads.items))
    (width : length works ≡ length r.threads.items)
    (stored : slice_get t.stores store ≡ Some (store_of r.store_and_events.store))
    (file_is : t.file ≡ plain_file r.file.now)
    (program_is : t.program ≡ plain_program r.program.now) where
  going : (u : ℕ) (later : Answers) (o : Option ℕ) → slice_get works u ≡ o →
      goes_with t o later ≡
      means (plain_file r.file.now) (plain_program r.program.now) (slice_get (map thread_of r.threads.items) u) later
  going u later None e = by_place (cases_lt u (length works))
    where
      by_place : (u < length works) ⊎ (length works ≤ u) →
          goes_with t None later ≡
          means (plain_file r.file.now) (plain_program r.program.now) (slice_get (map thread_of r.threads.items) u)
          later
      by_place (inl less) = absurd (none_not (sym e ∙ (there works u less).1))
      by_place (inr past) =
          let many : length (map thread_of r.threads.items) ≤ u =
          omega (arith, past, width, length-map r.threads.items thread_of) in
          sym (ap (λ (x : Option Thread). means (plain_file r.file.now) (plain_program r.program.now) x later)
          (slice_get_past (map thread_of r.threads.items) u many))
  going u later (Some work) e =
      let x = numbered u work e in
      ap (λ (y : Option Thread). means t.file t.program y later) (x.2 ∙ sym x.1)
      ∙ ap (λ (f : File). means f t.program (slice_get (map thread_of r.threads.items) u) later) file_is
      ∙ ap (λ (p : Program). means (plain_file r.file.now) p (slice_get (map thread_of r.threads.items) u) later)
      program_is

  pub stands_at : (p : Progress) → StandsFor r p →
      configuration_at t store works ≡ configuration_of p.file p.program p.state
  stands_at p h =
      let store_is : slice_index_or t.stores store no_store ≡ store_of r.store_and_events.store =
      get_or_from_slice_get t.stores store (store_of r.store_and_events.store) no_store stored in
      let goes : (u : ℕ) (later : Answers) → goes_with t (slice_get works u) later ≡
      next (plain_file r.file.now) (plain_program r.program.now) u (answers_of p.state u ++ later) =
      λ u later. going u later (slice_get works u) refl ∙ h.kept u later in
      let at_run : configuration_at t store works ≡
      record {
        store = store_of r.store_and_events.store;
        continues = λ u later. next (plain_file r.file.now) (plain_program r.program.now) u
            (answers_of p.state u ++ later);
      } = λ i. record { store = store_is i; continues = λ u later. goes u later i } in
      at_run ∙ ap (λ (q : Progress). configuration_of q.file q.program q.state) h.shows
