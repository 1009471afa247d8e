-- The addresses of the things are the answers of the makings.
use Rattle.std.proofs.Common.{◌≡◌, ℕ, zero, suc, ◌+◌, ◌<◌, ◌≤◌, Bool, true, false, List, [], ◌∷◌, ◌++◌, length, map}
use Rattle.std.proofs.Common.{refl, sym, ap, ◌∙◌, arith, append_assoc, append-nil, if◌then◌else◌}
use Rattle.ls_code.specs.Limits.{most_cells}
use Rattle.ls_events.specs.declared.value.Value.{Value}
use Rattle.ls_events.specs.declared.action.Action.{Action}
use Rattle.ls_events.specs.declared.action.Action.TheVariants.{New, NewLock, NewMarkable, NewArray}
use Rattle.ls_events.specs.declared.action.Answer.{Answer}
use Rattle.ls_events.specs.declared.action.Answer.TheVariants.{Gives}
use Rattle.ls_checked.specs.CheckedTree.{File}
use Rattle.ls_checked.specs.CheckedProgram.{Program}
use Rattle.ls_meaning.specs.Store.{Thing, Store}
use Rattle.ls_meaning.specs.Effect.{Effect, Waits, Does, effect}
use Rattle.ls_meaning.specs.Threads.{Next, Goes, Ended, Trapped, next}
use Rattle.ls_meaning.specs.Steps.{Entry, Stepped, Same, Moved, Acted, after, traced, run, trace}
use Rattle.ls_meaning.specs.Runs.{State, answers_of, has_started, performed, idle, step_of, stepped, source_step}
use Rattle.ls_preservation.specs.InWords.{written, map_action, map_answer, in_words, born, births, numbered, ArePlaces}
use Rattle.ls_preservation.specs.Same.{size_of, total}
use Rattle.ls_preservation.proofs.Cells.{offset, sizes_of, address, address_one, offset_below, AgreeTo}
use Rattle.ls_preservation.proofs.Effects.{renaming, Grows}
use Rattle.ls_preservation.proofs.Total.{Makes, Kept, keeps}

sum_sizes : List ℕ → ℕ
sum_sizes [] = 0
sum_sizes (s ∷ ss) = s + sum_sizes ss

total_sum : (os : List Thing) → total os ≡ sum_sizes (sizes_of os)
unfolding sum_sizes
total_sum [] = refl
total_sum (o ∷ os) = ap (λ k. size_of o + k) (total_sum os)

sum_more : (ss : List ℕ) (k : ℕ) → sum_sizes ss ≤ sum_sizes (ss ++ k ∷ [])
unfolding sum_sizes
sum_more [] k = omega arith
sum_more (s ∷ ss) k = omega (arith, sum_more ss k)

pub length-sizes : (os : List Thing) → length (sizes_of os) ≡ length os
length-sizes [] = refl
length-sizes (o ∷ os) = ap suc (length-sizes os)

offset_more : (ss more : List ℕ) (n : ℕ) → n ≤ length ss → offset (ss ++ more) n ≡ offset ss n
offset_more [] [] n h = refl
offset_more [] (s ∷ more) zero h = refl
offset_more [] (s ∷ more) (suc n) h = absurd (omega arith)
offset_more (s ∷ ss) more zero h = refl
offset_more (s ∷ ss) more (suc n) h = ap (λ k. s + k) (offset_more ss more n (omega arith))

address_more : (names : ℕ) (ss more : List ℕ) (n : ℕ) →
    n ≤ suc (length ss) →
    address names ss n ≡ address names (ss ++ more) n
address_more names ss more zero h = refl
address_more names ss more (suc n) h = ap (λ k. suc (names + k)) (sym (offset_more ss more n (omega arith)))

-- the addresses of all things
abbrev pub addresses : ℕ → List ℕ → List ℕ
addresses names [] = []
addresses names (s ∷ ss) = suc names ∷ addresses (names + s) ss

numbered_addresses : (names : ℕ) (ss : List ℕ) (n : ℕ) →
    n < length ss →
    numbered (addresses names ss) (suc n) ≡ suc (names + offset ss n)
numbered_addresses names [] n h = absurd (omega arith)
numbered_addresses names (s ∷ ss) zero h = ap suc (omega arith)
numbered_addresses names (s ∷ ss) (suc n) h = let e = numbered_addresses (names + s) ss n (omega arith) in e ∙
    ap suc (omega arith)

numbered_zero : (l : List ℕ) → numbered l 0 ≡ 0
numbered_zero [] = refl
numbered_zero (a ∷ l) = refl

-- the address of each thing is that of its making
pub numbered_agrees : (names : ℕ) (os : List Thing) →
    AgreeTo (length os) (address names (sizes_of os)) (numbered (addresses names (sizes_of os)))
numbered_agrees names os zero h = sym (numbered_zero (addresses names (sizes_of os)))
numbered_agrees names os (suc n) h = sym (numbered_addresses names (sizes_of os) n (omega (arith, length-sizes os)))

pub length-addresses : (names : ℕ) (ss : List ℕ) → length (addresses names ss) ≡ length ss
length-addresses names [] = refl
length-addresses names (s ∷ ss) = ap suc (length-addresses (names + s) ss)

-- an address is within all cells
address_within : (names : ℕ) (os : List Thing) (n : ℕ) →
    n ≤ length os →
    address names (sizes_of os) n ≤ names + total os
address_within names os zero h = omega arith
address_within names os (suc n) h = let below = offset_below os n (omega arith) in omega arith

-- the addresses differ
pub addresses_differ : (names : ℕ) (os : List Thing) →
    names + total os ≤ most_cells →
    ArePlaces (length (addresses names (sizes_of os))) (numbered (addresses names (sizes_of os)))
addresses_differ names os room =
    let long : length (addresses names (sizes_of os)) ≡ length os = length-addresses names (sizes_of os) ∙
    length-sizes os in
    record {
      distinct = λ m n hm hn e. address_one names os m n (numbered_agrees names os m (omega arith) ∙ e ∙
          sym (numbered_agrees names os n (omega arith)));
      small = λ n h. let same = numbered_agrees names os n (omega arith) in
          let within = address_within names os n (omega arith) in omega arith;
    }

addresses_end : (names : ℕ) (ss : List ℕ) (k : ℕ) →
    addresses names (ss ++ k ∷ []) ≡ addresses names ss ++ address names (ss ++ k ∷ []) (suc (length ss)) ∷ []
addresses_end names [] k = let e : suc names ≡ suc (names + 0) = omega arith in ap (λ a. a ∷ []) e
addresses_end names (s ∷ ss) k =
    let e : suc (names + s + offset (ss ++ k ∷ []) (length ss)) ≡ suc
    (names + (s + offset (ss ++ k ∷ []) (length ss))) = omega arith in
    ap (λ l. suc names ∷ l) (addresses_end (names + s) ss k) ∙
    ap (λ a. suc names ∷ (addresses (names + s) ss ++ a ∷ [])) e

born_rest : (a : Action ℕ) (x : Answer ℕ) (rest : List ℕ) → born a x rest ≡ born a x [] ++ rest
born_rest (New k) (Gives v) rest = refl
born_rest NewLock (Gives v) rest = refl
born_rest (NewMarkable w) (Gives v) rest = refl
born_rest (NewArray n) (Gives v) rest = refl
born_rest _ _ rest = refl

module _ (file : File) (program : Program) (names : ℕ) where
  abbrev sd : State → ℕ → Stepped State (Entry Value)
  sd = source_step file program

  -- what a step of the source does to the things
  abbrev Things : State → Stepped State (Entry Value) → Type 0
  Things s Same = Unit {0}
  Things s (Moved s') = ⊥
  Things s (Acted s' e) = Kept s.store e.action (Does s'.store e.answer)

  things_done : (s : State) (t : ℕ) (a : Action Value) (d : Effect) →
      Kept s.store a d →
      Things s (stepped t (performed s t a d).did (performed s t a d).after)
  things_done s t a Waits h = tt
  things_done s t a (Does st y) h = h

  things_next : (s : State) (t : ℕ) (b : Bool) (d : Next) →
      Things s (stepped t (if b then step_of file s t d else idle s).did
      (if b then step_of file s t d else idle s).after)
  things_next s t false d = tt
  things_next s t true Ended = tt
  things_next s t true Trapped = tt
  things_next s t true (Goes a q) = things_done s t a (effect file.classes s.store t a) (keeps s.store file.classes t a)

  things_step : (s : State) (t : ℕ) → Things s (sd s t)
  things_step s t = things_next s t (has_started file program s t) (next file program t (answers_of s t))

  -- a store grows from itself: nothing has moved
  pub grows_refl : (st : Store) → Grows names st st
  grows_refl st = record { places = λ n h. refl; things = omega arith; cells = omega arith }

  -- what grows in two stretches grows in all
  pub grows_trans : (a b c : Store) → Grows names a b → Grows names b c → Grows names a c
  grows_trans a b c g h = record {
    places = λ n le. g.places n le ∙ h.places n (omega (arith, g.things));
    things = omega (arith, g.things, h.things);
    cells = omega (arith, g.cells, h.cells);
  }

  grows_same : (st st' : Store) → sizes_of st'.things ≡ sizes_of st.things → Grows names st st'
  grows_same st st' e = record {
    places = λ n h. ap (λ l. address names l n) (sym e);
    things = omega (arith, ap length e, length-sizes st.things, length-sizes st'.things);
    cells = omega (arith, total_sum st.things, total_sum st'.things, ap sum_sizes e);
  }

  grows_more : (st st' : Store) (y : Answer Value) → Makes st (Does st' y) → Grows names st st'
  grows_more st st' y h = record {
    places = λ n le. address_more names (sizes_of st.things) (h.0 ∷ []) n (omega (arith, length-sizes st.things)) ∙
        ap (λ l. address names l n) (sym h.1);
    things = omega (arith, h.2);
    cells = omega (
      arith,
      total_sum st.things,
      total_sum st'.things,
      ap sum_sizes h.1,
      sum_more (sizes_of st.things) h.0,
    );
  }

  grows_kept : (st : Store) (a : Action Value) (st' : Store) (y : Answer Value) →
      Kept st a (Does st' y) →
      Grows names st st'
  grows_kept st (New k) st' y h = grows_more st st' y h
  grows_kept st NewLock st' y h = grows_more st st' y h
  grows_kept st (NewMarkable v) st' y h = grows_more st st' y h
  grows_kept st (NewArray n) st' y h = grows_more st st' y h
  grows_kept st _ st' y h = grows_same st st' h

  grows_did : (s : State) (d : Stepped State (Entry Value)) → Things s d → Grows names s.store (after s d).store
  grows_did s Same h = grows_refl s.store
  grows_did s (Moved s') h = absurd h
  grows_did s (Acted s' e) h = grows_kept s.store e.action s'.store e.answer h

  -- a step of the source makes the store grow
  pub grows_step : (s : State) (t : ℕ) → Grows names s.store (after s (sd s t)).store
  grows_step s t = grows_did s (sd s t) (things_step s t)

  -- a schedule of the source makes the store grow
  pub grows_run : (ts : List ℕ) (s : State) → Grows names s.store (run sd s ts).store
  grows_run [] s = grows_refl s.store
  grows_run (t ∷ ts) s = grows_trans s.store _ _ (grows_step s t) (grows_run ts (after s (sd s t)))

  abbrev all_addresses : Store → List ℕ
  all_addresses st = addresses names (sizes_of st.things)

  -- what is born in one entry, written under the last store
  born_more : (st st' last : Store) (y : Answer Value) →
      Makes st (Does st' y) →
      Grows names st' last →
      (b : Action ℕ) →
      ((v : ℕ) → born b (Gives v) [] ≡ v ∷ []) →
      all_addresses st' ≡ all_addresses st ++ born b (map_answer (written (renaming names last)) y) []
  born_more st st' last y h g b makes =
      let n = length st.things in
      let e1 : address names (sizes_of st.things ++ h.0 ∷ []) (suc (length (sizes_of st.things))) ≡ renaming names last
      (suc n) =
      ap (λ k. address names (sizes_of st.things ++ h.0 ∷ []) (suc k)) (length-sizes st.things) ∙
      ap (λ l. address names l (suc n)) (sym h.1) ∙ g.places (suc n) (omega (arith, h.2)) in
      ap (addresses names) h.1 ∙ addresses_end names (sizes_of st.things) h.0 ∙ ap (λ a. all_addresses st ++ a ∷ []) e1
      ∙ ap (λ l. all_addresses st ++ l) (sym (makes (renaming names last (suc n))) ∙
      ap (λ z. born b (map_answer (written (renaming names last)) z) []) (sym h.3))

  born_same : (st st' : Store) (l : List ℕ) →
      sizes_of st'.things ≡ sizes_of st.things →
      l ≡ [] →
      all_addresses st' ≡ all_addresses st ++ l
  born_same st st' l e n = ap (addresses names) e ∙ sym (append-nil (all_addresses st)) ∙
      ap (λ z. all_addresses st ++ z) (sym n)

  born_kept : (st : Store) (a : Action Value) (st' last : Store) (y : Answer Value) →
      Kept st a (Does st' y) →
      Grows names st' last →
      all_addresses st' ≡ all_addresses st ++ born (map_action (renaming names last) (written (renaming names last)) a)
      (map_answer (written (renaming names last)) y) []
  born_kept st (New k) st' last y h g = born_more st st' last y h g (New k) (λ v. refl)
  born_kept st NewLock st' last y h g = born_more st st' last y h g NewLock (λ v. refl)
  born_kept st (NewMarkable v) st' last y h g = born_more st st' last y h g
      (NewMarkable (written (renaming names last) v)) (λ w. refl)
  born_kept st (NewArray n) st' last y h g = born_more st st' last y h g (NewArray n) (λ w. refl)
  born_kept st _ st' last y h g = born_same st st' _ h refl

  births_traced : (s : State) (last : Store) (d : Stepped State (Entry Value)) (es : List (Entry Value)) (end : List ℕ)
      →
      Things s d →
      Grows names (after s d).store last →
      end ≡ all_addresses (after s d).store ++ births (map (in_words (renaming names last)) es) →
      end ≡ all_addresses s.store ++ births (map (in_words (renaming names last)) (traced d es))
  births_traced s last Same es end h g e = e
  births_traced s last (Moved s') es end h g e = absurd h
  births_traced s last (Acted s' x) es end h g e =
      let f = in_words (renaming names last) x in
      let rest = births (map (in_words (renaming names last)) es) in
      e ∙ ap (λ l. l ++ rest) (born_kept s.store x.action s'.store last x.answer h g) ∙
      append_assoc (all_addresses s.store) (born f.action f.answer []) rest ∙
      ap (λ l. all_addresses s.store ++ l) (sym (born_rest f.action f.answer rest))

  -- the addresses at the end are those at the start and the answers of the makings
  pub births_right : (ts : List ℕ) (s : State) (last : Store) →
      Grows names (run sd s ts).store last →
      all_addresses (run sd s ts).store ≡ all_addresses s.store ++
      births (map (in_words (renaming names last)) (trace sd s ts))
  births_right [] s last g = sym (append-nil (all_addresses s.store))
  births_right (t ∷ ts) s last g =
      births_traced s last (sd s t) (trace sd (after s (sd s t)) ts) _ (things_step s t)
      (grows_trans _ _ _ (grows_run ts (after s (sd s t))) g) (births_right ts (after s (sd s t)) last g)
