-- The acting cases, one by one: fields, names and items.
use Rattle.std.proofs.Common.{◌≡◌, ℕ, zero, suc, ◌+◌, ◌-◌, ◌<◌, ℤ, pos, negsuc, true, false, List, [], ◌∷◌, ◌++◌}
use Rattle.std.proofs.Common.{length, map, Some, None, refl, sym, ap, ◌∙◌, subst, arith, slice_get, slice_set, nat_eq}
use Rattle.std.proofs.Common.{nat_lt, if◌then◌else◌}
use Rattle.std.proofs.lemmas.Bool.Decides.{nat_tests}
use Rattle.std.proofs.lemmas.List.{length-map}
use Rattle.ls_events.specs.declared.value.Value.{Value}
use Rattle.ls_events.specs.declared.value.ValueType.{ValueType}
use Rattle.ls_events.specs.declared.value.ValueType.TheVariants as type
use Rattle.ls_events.specs.declared.action.Action.{Action}
use Rattle.ls_events.specs.declared.action.Action.TheVariants.{ReadField, WriteField, ReadName, WriteName}
use Rattle.ls_events.specs.declared.action.Answer.{Answer}
use Rattle.ls_events.specs.declared.action.Answer.TheVariants.{Done, Gives}
use Rattle.ls_checked.specs.CheckedTree.{Class}
use Rattle.ls_meaning.specs.declared.sort.Sort.{Sort}
use Rattle.ls_meaning.specs.declared.sort.Sort.TheVariants.{NoValue, ValueOf}
use Rattle.ls_meaning.specs.Values.{nothing}
use Rattle.ls_meaning.specs.Store.{Thing, Object, LockOf, Markable, Array, Store, thing_at, with_thing, with_name}
use Rattle.ls_meaning.specs.Effect.{Effect, Does, Leaves, change, on_thing, at_thing, put_back, in_range, effect}
use Rattle.ls_meaning.specs.Threads.{Goes}
use Rattle.ls_code.specs.Cells.{Cells, cell_at, with_words, on_cell, written_at, on_name}
use Rattle.ls_code.specs.Cells as machine
use Rattle.ls_preservation.specs.InWords.{written, map_answer}
use Rattle.ls_preservation.specs.Sorts.{Refers, HasType, fields_of, Suits}
use Rattle.ls_preservation.specs.Same.{size_of, total}
use Rattle.ls_preservation.proofs.Lists.{set_here, get_left, set_left, get_within, get_map, set_map, index_there}
use Rattle.ls_preservation.proofs.Lists.{length-set}
use Rattle.ls_preservation.proofs.Cells.{offset, sizes_of, address, hold_word, cells_of, laid, all_cells, length_all}
use Rattle.ls_preservation.proofs.Cells.{sizes-set, cells_get, cells_set, cells_within}
use Rattle.ls_preservation.proofs.Effects.{ThingHas, many_length, things_set, value_there, values_set, renaming, Holds}
use Rattle.ls_preservation.proofs.Effects.{Grows, Agrees}
use Rattle.ls_preservation.proofs.Effects as effects

pub total-set : (os : List Thing) (n : ℕ) (o o' : Thing) →
    slice_get os n ≡ Some o →
    size_of o' ≡ size_of o →
    total (slice_set os n o') ≡ total os
total-set [] n o o' h e = refl
total-set (x ∷ os) zero o o' h e = let e1 : x ≡ o = cc in ap (λ k. k + total os) (e ∙ ap size_of (sym e1))
total-set (x ∷ os) (suc n) o o' h e = ap (λ k. size_of x + k) (total-set os n o o' h e)

-- an index is in range on both sides, or on none
pub range_same : (i : ℤ) (n : ℕ) → machine.in_range i n ≡ in_range i n
range_same (pos k) n = refl
range_same (negsuc k) n = refl

-- thing n + 1 is at index n
pub thing_is : (st : Store) (n : ℕ) → thing_at st (suc n) ≡ slice_get st.things n
thing_is st n =
    let e : nat_eq (suc n) 0 ≡ false = grind (arith, nat_tests) in
    let e' : suc n - 1 ≡ n = omega arith in
    ap (λ b. if b then None else slice_get st.things (suc n - 1)) e ∙ ap (slice_get st.things) e'

-- a store with another thing at an index
abbrev pub put : Store → ℕ → Thing → Store
put st n o = record { things = slice_set st.things n o; names = st.names }

-- thing n + 1 is replaced at index n
pub put_is : (st : Store) (n : ℕ) (o : Thing) → with_thing st (suc n) o ≡ put st n o
put_is st n o = let e : suc n - 1 ≡ n = omega arith in ap (λ k. put st k o) e

-- an action on a thing that exists
pub on_is : (st : Store) (n t : ℕ) (a : Action Value) (o : Thing) →
    slice_get st.things n ≡ Some o →
    on_thing st (suc n) t a ≡ put_back st (suc n) (change t a o)
on_is st n t a o at = ap (λ z. at_thing st (suc n) z (change t a)) (thing_is st n ∙ at)

-- a changed thing goes back into the store
pub back_is : (st : Store) (n : ℕ) (o : Thing) (x : Answer Value) →
    put_back st (suc n) (Leaves o x) ≡ Does (put st n o) x
back_is st n o x = ap (λ z. Does z x) (put_is st n o)

module _ (classes : List Class) (named : List ValueType) (sizes : List ℕ) (room : ℕ) (σ : List ValueType) (st : Store)
    (c : Cells) (holds : Holds classes named sizes room σ st c) where
  abbrev ρ : ℕ → ℕ
  ρ = renaming (length named) st

  -- what an action does on both sides agrees, in this setting
  abbrev pub Agree : Action Value → Sort → Effect → machine.Effect → Type 0
  Agree a s e d = Agrees classes named sizes room σ st a s e d

  names_length : length st.names ≡ length named
  names_length = many_length σ st.names named holds.names

  grows_same : Grows (length named) st st
  grows_same = record { places = λ n h. refl; things = omega arith; cells = omega arith }

  -- nothing is changed
  pub reads : (a : Action Value) (s : Sort) (x : Answer Value) (w : Answer ℕ) →
      Suits (Refers σ) (Goes a s) x →
      w ≡ map_answer (written ρ) x →
      effects.Done classes named sizes room σ st a s st x c w
  reads a s x w u e = record { sorts = σ; extends = λ n r h. h; holds = holds; suits = u; word = e; grows = grows_same }

  -- the same after equal effects
  pub agree_at : (a : Action Value) (s : Sort) (e e' : Effect) (d d' : machine.Effect) →
      e ≡ e' →
      d ≡ d' →
      Agree a s e' d' →
      Agree a s e d
  agree_at a s e e' d d' p q h = subst (λ y. Agree a s y d) (sym p) (subst (λ y. Agree a s e' y) (sym q) h)

  -- a thing is left as it is
  pub unchanged : (a : Action Value) (s : Sort) (n : ℕ) (o : Thing) (x : Answer Value) (w : Answer ℕ) →
      slice_get st.things n ≡ Some o →
      Suits (Refers σ) (Goes a s) x →
      w ≡ map_answer (written ρ) x →
      Agree a s (Does (put st n o) x) (machine.Answers c w)
  unchanged a s n o x w at u e =
      let same : put st n o ≡ st = ap (λ l. record { things = l; names = st.names }) (set_here st.things n o at) in
      subst (λ z. Agree a s (Does z x) (machine.Answers c w)) (sym same) (reads a s x w u e)

  abbrev pub place : ℕ → ℕ → ℕ
  place n i = length named + offset (sizes_of st.things) n + i

  -- the cells with another word in one cell of a thing
  abbrev pub with_cell : ℕ → ℕ → ℕ → Cells
  with_cell n i w = with_words c (slice_set c.words (place n i) w)

  -- one cell of one thing is changed
  pub one_cell : (n i w : ℕ) (o o' : Thing) (s : ValueType) →
      slice_get st.things n ≡ Some o →
      slice_get σ n ≡ Some s →
      ThingHas classes σ o' s →
      size_of o' ≡ size_of o →
      i < size_of o →
      cells_of ρ o' ≡ slice_set (cells_of ρ o) i w →
      (a : Action Value) (r : Sort) (x : Answer Value) (v : Answer ℕ) →
      Suits (Refers σ) (Goes a r) x →
      v ≡ map_answer (written ρ) x →
      effects.Done classes named sizes room σ st a r (put st n o') x (with_cell n i w) v
  one_cell n i w o o' s at sort has size within cells a r x v suit word =
      let same : ρ ≡ renaming (length named) (put st n o') = ap (address (length named))
      (sym (sizes-set st.things n o o' at size)) in
      let spot : place n i ≡ length st.names + offset (sizes_of st.things) n + i = ap
      (λ k. k + offset (sizes_of st.things) n + i) (sym names_length) in
      record {
        sorts = σ;
        extends = λ m q h. h;
        holds = record {
          words = ap (λ l. slice_set l (place n i) w) holds.words ∙
              ap (λ k. slice_set (all_cells ρ st.names st.things) k w) spot ∙
              sym (cells_set ρ st.names st.things n i o o' w at within cells) ∙
              ap (λ z. all_cells z st.names (slice_set st.things n o')) same;
          limit = holds.limit;
          count = holds.count;
          table = holds.table;
          within = omega (arith, holds.within, length-set c.words (place n i) w);
          typed = things_set classes σ st.things σ n o' s holds.typed sort has;
          names = holds.names;
        };
        suits = suit;
        word = word ∙ ap (λ z. map_answer (written z) x) same;
        grows = record {
          places = λ m h. ap (λ f. f m) same;
          things = omega (arith, length-set st.things n o');
          cells = omega (arith, total-set st.things n o o' at size);
        };
      }

  -- what is in one cell of one thing
  pub cell_is : (n i w : ℕ) (o : Thing) →
      slice_get st.things n ≡ Some o →
      i < size_of o →
      slice_get (cells_of ρ o) i ≡ Some w →
      cell_at c (ρ (suc n)) i ≡ Some w
  cell_is n i w o at within is =
      let spot : place n i ≡ length st.names + offset (sizes_of st.things) n + i = ap
      (λ k. k + offset (sizes_of st.things) n + i) (sym names_length) in
      ap (λ l. slice_get l (place n i)) holds.words ∙ ap (slice_get (all_cells ρ st.names st.things)) spot ∙
      cells_get ρ st.names st.things n i o at within ∙ is

  -- a write of one cell of one thing
  pub write_is : (n i w : ℕ) (o : Thing) (v : Answer ℕ) →
      slice_get st.things n ≡ Some o →
      i < size_of o →
      machine.written c (ρ (suc n)) i w v ≡ machine.Answers (with_cell n i w) v
  write_is n i w o v at within =
      let long : length c.words ≡ length (all_cells ρ st.names st.things) = ap length holds.words in
      let there : place n i < length c.words = omega (
        arith,
        cells_within ρ st.names st.things n i o at within,
        names_length,
      ) in
      let test : nat_lt (place n i) (length c.words) ≡ true = grind (arith, nat_tests) in
      ap (λ b. if b then machine.Answers (with_cell n i w) v else machine.Unfit) test

  -- the laws above, to be opened
  pub record Laws : Type 0 where
    pub agree_at : (a : Action Value) (s : Sort) (e e' : Effect) (d d' : machine.Effect) →
        e ≡ e' →
        d ≡ d' →
        Agree a s e' d' →
        Agree a s e d
    pub unchanged : (a : Action Value) (s : Sort) (n : ℕ) (o : Thing) (x : Answer Value) (w : Answer ℕ) →
        slice_get st.things n ≡ Some o →
        Suits (Refers σ) (Goes a s) x →
        w ≡ map_answer (written ρ) x →
        Agree a s (Does (put st n o) x) (machine.Answers c w)
    pub one_cell : (n i w : ℕ) (o o' : Thing) (s : ValueType) →
        slice_get st.things n ≡ Some o →
        slice_get σ n ≡ Some s →
        ThingHas classes σ o' s →
        size_of o' ≡ size_of o →
        i < size_of o →
        cells_of ρ o' ≡ slice_set (cells_of ρ o) i w →
        (a : Action Value) (r : Sort) (x : Answer Value) (v : Answer ℕ) →
        Suits (Refers σ) (Goes a r) x →
        v ≡ map_answer (written ρ) x →
        Agree a r (Does (put st n o') x) (machine.Answers (with_cell n i w) v)
    pub cell_is : (n i w : ℕ) (o : Thing) →
        slice_get st.things n ≡ Some o →
        i < size_of o →
        slice_get (cells_of ρ o) i ≡ Some w →
        cell_at c (ρ (suc n)) i ≡ Some w
    pub write_is : (n i w : ℕ) (o : Thing) (v : Answer ℕ) →
        slice_get st.things n ≡ Some o →
        i < size_of o →
        machine.written c (ρ (suc n)) i w v ≡ machine.Answers (with_cell n i w) v

  pub laws : Laws
  laws = record {
    agree_at = agree_at;
    unchanged = unchanged;
    one_cell = one_cell;
    cell_is = cell_is;
    write_is = write_is;
  }

  -- fields
  pub read_case : (t n f : ℕ) (s : ValueType) (k : ℕ) →
      slice_get σ n ≡ Some (type.Class k) →
      slice_get (fields_of classes k) f ≡ Some s →
      (o : Thing) →
      slice_get st.things n ≡ Some o →
      ThingHas classes σ o (type.Class k) →
      Agree (ReadField (suc n) f) (ValueOf s) (on_thing st (suc n) t (ReadField (suc n) f))
      (machine.effect c t (ReadField (ρ (suc n)) (f + 1)))
  read_case t n f s k sort field (Object m vs) at has =
      let there = value_there σ vs (fields_of classes k) f s has.1 field in
      let next : f + 1 ≡ suc f = omega arith in
      let is : slice_get (cells_of ρ (Object m vs)) (f + 1) ≡ Some (written ρ there.0) = ap
      (slice_get (cells_of ρ (Object m vs))) next ∙ get_map (written ρ) vs f there.0 there.1 in
      let within : f + 1 < size_of (Object m vs) = omega (arith, get_within vs f there.0 there.1) in
      agree_at (ReadField (suc n) f) (ValueOf s) _ _ _ _
      (on_is st n t (ReadField (suc n) f) (Object m vs) at ∙ back_is st n (Object m vs) _ ∙
      ap (λ v. Does (put st n (Object m vs)) (Gives v)) (index_there vs f there.0 nothing there.1))
      (ap (λ z. on_cell z (λ word. machine.Answers c (Gives word))) (cell_is n (f + 1) _ (Object m vs) at within is))
      (unchanged (ReadField (suc n) f) (ValueOf s) n (Object m vs) (Gives there.0) (Gives (written ρ there.0)) at
      there.2 refl)
  read_case t n f s k sort field (LockOf h) at has = absurd has
  read_case t n f s k sort field (Markable v) at has = absurd has
  read_case t n f s k sort field (Array m items) at has = absurd has

  -- a write of a field
  pub write_case : (t n f : ℕ) (v : Value) (q : ValueType) (k : ℕ) →
      slice_get σ n ≡ Some (type.Class k) →
      slice_get (fields_of classes k) f ≡ Some q →
      HasType σ v q →
      (o : Thing) →
      slice_get st.things n ≡ Some o →
      ThingHas classes σ o (type.Class k) →
      Agree (WriteField (suc n) f v) NoValue (on_thing st (suc n) t (WriteField (suc n) f v))
      (machine.effect c t (WriteField (ρ (suc n)) (f + 1) (written ρ v)))
  write_case t n f v q k sort field hasv (Object m vs) at has =
      let there = value_there σ vs (fields_of classes k) f q has.1 field in
      let next : f + 1 ≡ suc f = omega arith in
      let within : f + 1 < size_of (Object m vs) = omega (arith, get_within vs f there.0 there.1) in
      let size : size_of (Object m (slice_set vs f v)) ≡ size_of (Object m vs) = ap (λ l. l + 1) (length-set vs f v) in
      let cells : cells_of ρ (Object m (slice_set vs f v)) ≡ slice_set (cells_of ρ (Object m vs)) (f + 1)
      (written ρ v) =
      ap (λ l. hold_word m ∷ l) (set_map (written ρ) vs f v) ∙
      ap (λ i. slice_set (cells_of ρ (Object m vs)) i (written ρ v)) (sym next) in
      agree_at (WriteField (suc n) f v) NoValue _ _ _ _
      (on_is st n t (WriteField (suc n) f v) (Object m vs) at ∙ back_is st n (Object m (slice_set vs f v)) Done)
      (write_is n (f + 1) (written ρ v) (Object m vs) Done at within)
      (one_cell n (f + 1) (written ρ v) (Object m vs) (Object m (slice_set vs f v)) (type.Class k) at sort
      (has.0, values_set σ vs (fields_of classes k) f v q has.1 field hasv, has.2) size within cells
      (WriteField (suc n) f v) NoValue Done Done refl refl)
  write_case t n f v q k sort field hasv (LockOf h) at has = absurd has
  write_case t n f v q k sort field hasv (Markable w) at has = absurd has
  write_case t n f v q k sort field hasv (Array m items) at has = absurd has

  -- names
  name_cell : (n : ℕ) → cell_at c 1 n ≡ slice_get c.words n
  name_cell n = let e : 0 + n ≡ n = omega arith in ap (slice_get c.words) e

  name_word : (n : ℕ) (v : Value) → slice_get st.names n ≡ Some v → slice_get c.words n ≡ Some (written ρ v)
  name_word n v at =
      let within : n < length (map (written ρ) st.names) = omega
      (arith, get_within st.names n v at, length-map st.names (written ρ)) in
      ap (λ l. slice_get l n) holds.words ∙ get_left (map (written ρ) st.names) (laid ρ st.things) n within ∙
      get_map (written ρ) st.names n v at

  on_name_is : (n : ℕ) (d : machine.Effect) → n < length named → on_name c n d ≡ d
  on_name_is n d h =
      let count = holds.count in
      let test : nat_lt n c.names ≡ true = grind (arith, nat_tests) in
      ap (λ b. if b then d else machine.Unfit) test

  -- a read of a setup name
  pub name_case : (t n : ℕ) (s : ValueType) →
      slice_get named n ≡ Some s →
      Agree (ReadName n) (ValueOf s) (effect classes st t (ReadName n)) (machine.effect c t (ReadName n))
  name_case t n s sort =
      let there = value_there σ st.names named n s holds.names sort in
      agree_at (ReadName n) (ValueOf s) _ _ _ _
      (ap (λ v. Does st (Gives v)) (index_there st.names n there.0 nothing there.1))
      (on_name_is n _ (get_within named n s sort) ∙ ap (λ z. on_cell z (λ word. machine.Answers c (Gives word)))
      (name_cell n ∙ name_word n there.0 there.1))
      (reads (ReadName n) (ValueOf s) (Gives there.0) (Gives (written ρ there.0)) there.2 refl)

  -- a write of a setup name
  pub set_name_case : (t n : ℕ) (v : Value) (s : ValueType) →
      slice_get named n ≡ Some s →
      HasType σ v s →
      Agree (WriteName n v) NoValue (effect classes st t (WriteName n v))
      (machine.effect c t (WriteName n (written ρ v)))
  set_name_case t n v s sort has =
      let within : n < length (map (written ρ) st.names) = omega
      (arith, get_within named n s sort, names_length, length-map st.names (written ρ)) in
      let place : 0 + n ≡ n = omega arith in
      let long : length c.words ≡ length (all_cells ρ st.names st.things) = ap length holds.words in
      let there : n < length c.words = omega (arith, length_all ρ st.names st.things, length-map st.names (written ρ))
      in
      let test : nat_lt n (length c.words) ≡ true = grind (arith, nat_tests) in
      agree_at (WriteName n v) NoValue _ (Does (with_name st n v) Done) _
      (machine.Answers (with_words c (slice_set c.words n (written ρ v))) Done) refl
      (on_name_is n _ (get_within named n s sort) ∙ ap (λ k. written_at c (Some k) (written ρ v) Done) place ∙
      ap (λ b. if b then machine.Answers (with_words c (slice_set c.words n (written ρ v))) Done else machine.Unfit)
      test)
      (record {
        sorts = σ;
        extends = λ m q h. h;
        holds = record {
          words = ap (λ l. slice_set l n (written ρ v)) holds.words ∙
              set_left (map (written ρ) st.names) (laid ρ st.things) n (written ρ v) within ∙
              ap (λ l. l ++ laid ρ st.things) (sym (set_map (written ρ) st.names n v));
          limit = holds.limit;
          count = holds.count;
          table = holds.table;
          within = omega (arith, holds.within, length-set c.words n (written ρ v));
          typed = holds.typed;
          names = values_set σ st.names named n v s holds.names sort has;
        };
        suits = refl;
        word = refl;
        grows = record { places = λ m h. refl; things = omega arith; cells = omega arith };
      })
