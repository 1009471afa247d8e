-- The makings, and all acting cases together.
use Rattle.std.proofs.Common.{◌≡◌, ◌≢◌, ℕ, zero, suc, ◌+◌, ◌<◌, ◌≤◌, pos, negsuc, Bool, true, false, List, [], ◌∷◌}
use Rattle.std.proofs.Common.{◌++◌, length, map, replicate, Option, Some, None, refl, sym, ap, ◌∙◌, subst, arith}
use Rattle.std.proofs.Common.{append_assoc, length-append, slice_get, nat_le, if◌then◌else◌, rules}
use Rattle.std.proofs.lemmas.List.{length-replicate, length-map}
use Rattle.std.proofs.lemmas.Bool.Decides.{nat_tests}
use Rattle.ls_code.specs.Limits.{most_cells}
use Rattle.ls_events.specs.declared.value.Value.{Value}
use Rattle.ls_events.specs.declared.value.Value.TheVariants.{Boolean}
use Rattle.ls_events.specs.declared.value.ValueType.{ValueType}
use Rattle.ls_events.specs.declared.value.ValueType.TheVariants as type
use Rattle.ls_events.specs.declared.action.Action.{Action}
use Rattle.ls_events.specs.declared.action.Action.TheVariants.{ReadField, WriteField, ReadItem, WriteItem, ReadName}
use Rattle.ls_events.specs.declared.action.Action.TheVariants.{WriteName, New, NewLock, NewMarkable, NewArray, Lock}
use Rattle.ls_events.specs.declared.action.Action.TheVariants.{Unlock, TryLock, IsHeld, LockMonitor, UnlockMonitor}
use Rattle.ls_events.specs.declared.action.Action.TheVariants.{ReadPair, SetPair, SwapPair, AttemptMark, Turn, Enter}
use Rattle.ls_events.specs.declared.action.Action.TheVariants.{Call, Return, Trap}
use Rattle.ls_events.specs.declared.action.Answer.TheVariants.{Done, Gives}
use Rattle.ls_checked.specs.CheckedTree.{Class, File}
use Rattle.ls_checked.specs.CheckedProgram.{Program, SetupName}
use Rattle.ls_meaning.specs.declared.sort.Sort.{Sort}
use Rattle.ls_meaning.specs.declared.sort.Sort.TheVariants.{NoValue, ValueOf, NewOf, PairOf}
use Rattle.ls_meaning.specs.Values.{start_of}
use Rattle.ls_meaning.specs.Store.{Free, Thing, Object, LockOf, Markable, Array, Store, with_new}
use Rattle.ls_meaning.specs.Effect.{Effect, Does, making, fields_in, effect}
use Rattle.ls_code.specs.Cells.{Cells, with_words, on_cell}
use Rattle.ls_code.specs.Cells as machine
use Rattle.ls_preservation.specs.InWords.{written, map_action}
use Rattle.ls_preservation.specs.Sorts.{Refers, HasSortBy, HasType, NameHas, fields_by, fields_of, ActionHas}
use Rattle.ls_preservation.specs.Threads.{object_cells}
use Rattle.ls_preservation.specs.Same.{size_of, total}
use Rattle.ls_preservation.proofs.Lists.{get_end, get_there}
use Rattle.ls_preservation.proofs.Cells.{sizes_of, address, listed, hold_word, cells_of, laid, all_cells, AgreeTo}
use Rattle.ls_preservation.proofs.Cells.{length_all, laid-append, address-append, address_new, written_agree}
use Rattle.ls_preservation.proofs.Cells.{pair_agree}
use Rattle.ls_preservation.proofs.Effects.{HaveTypes, ThingHas, ThingsHave, thing_more, things_more, things_end}
use Rattle.ls_preservation.proofs.Effects.{things_length, thing_there, many_length, many_more, extends_end, renaming}
use Rattle.ls_preservation.proofs.Effects.{Holds, Agrees}
use Rattle.ls_preservation.proofs.FieldCases as cases
use Rattle.ls_preservation.proofs.ItemCases
use Rattle.ls_preservation.proofs.LockCases
use Rattle.ls_preservation.proofs.PairCases

pub total-append : (os : List Thing) (o : Thing) → total (os ++ o ∷ []) ≡ total os + size_of o
total-append [] o = omega arith
total-append (x ∷ os) o = omega (arith, total-append os o)

-- a new object's fields
start_word : (ρ : ℕ → ℕ) → ρ 0 ≡ 0 → (s : ValueType) → written ρ (start_of s) ≡ 0
start_word ρ z type.Int = refl
start_word ρ z type.Boolean = refl
start_word ρ z type.BooleanArray = z
start_word ρ z (type.Class c) = z
start_word ρ z type.Lock = z
start_word ρ z (type.Markable c) = z

start_words : (ρ : ℕ → ℕ) →
    ρ 0 ≡ 0 →
    (ss : List ValueType) →
    map (written ρ) (map start_of ss) ≡ replicate (length ss) 0
start_words ρ z [] = refl
start_words ρ z (s ∷ ss) = let e = start_word ρ z s in let e' = start_words ρ z ss in
    ap (λ w. w ∷ map (written ρ) (map start_of ss)) e ∙ ap (λ l. 0 ∷ l) e'

start_has : (σ : List ValueType) (s : ValueType) → HasType σ (start_of s) s
start_has σ type.Int = search rules
start_has σ type.Boolean = tt
start_has σ type.BooleanArray = tt
start_has σ (type.Class c) = tt
start_has σ type.Lock = tt
start_has σ (type.Markable c) = tt

starts_have : (σ : List ValueType) (ss : List ValueType) → HaveTypes σ (map start_of ss) ss
starts_have σ [] = tt
starts_have σ (s ∷ ss) = (start_has σ s, starts_have σ ss)

-- a new array's items
items_zero : (n : ℕ) → listed {A = ℕ} n (λ i. 0) ≡ replicate n 0
items_zero zero = refl
items_zero (suc n) = ap (λ l. 0 ∷ l) (items_zero n)

fields_same : (o : Option Class) → fields_in o ≡ map start_of (fields_by o)
fields_same None = refl
fields_same (Some k) = refl

module _ (classes : List Class) (named : List ValueType) (sizes : List ℕ) (room : ℕ) (small : room ≤ most_cells)
    (σ : List ValueType) (st : Store) (c : Cells) (holds : Holds classes named sizes room σ st c) where
  open cases.laws classes named sizes room σ st c holds use {agree_at}

  abbrev ρ : ℕ → ℕ
  ρ = renaming (length named) st

  abbrev Agree : Action Value → Sort → Effect → machine.Effect → Type 0
  Agree a s e d = Agrees classes named sizes room σ st a s e d

  words_length : length c.words ≡ length named + total st.things
  words_length = omega (
    arith,
    ap length holds.words,
    length_all ρ st.names st.things,
    many_length σ st.names named holds.names,
  )

  names_agree : (vs : List Value) (ss : List ValueType) (ρ' : ℕ → ℕ) →
      AgreeTo (length σ) ρ ρ' →
      HaveTypes σ vs ss →
      map (written ρ) vs ≡ map (written ρ') vs
  names_agree [] ss ρ' a h = refl
  names_agree (v ∷ vs) [] ρ' a h = absurd h
  names_agree (v ∷ vs) (s ∷ ss) ρ' a h = let e = written_agree σ ρ ρ' v s a h.0 in
      let e' = names_agree vs ss ρ' a h.1 in cc

  thing_agree : (ρ' : ℕ → ℕ) (o : Thing) (s : ValueType) →
      AgreeTo (length σ) ρ ρ' →
      ThingHas classes σ o s →
      cells_of ρ o ≡ cells_of ρ' o
  thing_agree ρ' (Object m vs) (type.Class k) a h = ap (λ l. hold_word m ∷ l)
      (names_agree vs (fields_of classes k) ρ' a h.1)
  thing_agree ρ' (Markable v) (type.Markable k) a h = ap (λ w. w ∷ []) (pair_agree σ ρ ρ' v k a h)
  thing_agree ρ' (Array n items) type.BooleanArray a h = ap (λ l. n ∷ l)
      (alike n (λ i. written ρ (items i)) (λ i. written ρ' (items i))
      (λ i l. written_agree σ ρ ρ' (items i) type.Boolean a (h i l)))
    where
      alike : (n : ℕ) (f g : ℕ → ℕ) → ((i : ℕ) → i < n → f i ≡ g i) → listed n f ≡ listed n g
      alike zero f g h = refl
      alike (suc n) f g h = ap (λ x. x ∷ listed n (λ i. f (suc i))) (h 0 (omega arith)) ∙
          ap (λ l. g 0 ∷ l) (alike n (λ i. f (suc i)) (λ i. g (suc i)) (λ i l. h (suc i) (omega arith)))
  thing_agree ρ' (LockOf g) s a h = refl
  thing_agree ρ' _ _ a h = absurd h

  laid_agree : (ρ' : ℕ → ℕ) (os : List Thing) (ss : List ValueType) →
      AgreeTo (length σ) ρ ρ' →
      ThingsHave classes σ os ss →
      laid ρ os ≡ laid ρ' os
  laid_agree ρ' [] ss a h = refl
  laid_agree ρ' (o ∷ os) [] a h = absurd h
  laid_agree ρ' (o ∷ os) (s ∷ ss) a h =
      let e = thing_agree ρ' o s a h.0 in let e' = laid_agree ρ' os ss a h.1 in cc

  new_test : (o : Thing) (s : ValueType) (ws : List ℕ) (a : Action Value) →
      ThingHas classes σ o s →
      length ws ≡ size_of o →
      cells_of (renaming (length named) (with_new st o)) o ≡ ws →
      (b : Bool) →
      nat_le (length c.words + length ws) c.limit ≡ b →
      Agree a (NewOf s) (making st o) (if b then machine.Answers (with_words c (c.words ++ ws))
      (Gives (length c.words + 1)) else machine.Stops)
  new_test o s ws a has size cells false eb =
      let limit = holds.limit in
      let large : room < length c.words + length ws = grind (arith, nat_tests) in
      omega (arith, words_length, total-append st.things o)
  new_test o s ws a has size cells true eb =
      let limit = holds.limit in
      let fits : length c.words + length ws ≤ room = grind (arith, nat_tests) in
      let st' = with_new st o in
      let ρ' = renaming (length named) st' in
      let long : length σ ≡ length st.things = things_length classes σ st.things σ holds.typed in
      let agree : AgreeTo (length σ) ρ ρ' = λ n h. address-append (length named) st.things (o ∷ []) n (omega arith) in
      let names : map (written ρ') st.names ≡ map (written ρ) st.names = sym
      (names_agree st.names named ρ' agree holds.names) in
      let all : all_cells ρ' st.names st'.things ≡ all_cells ρ st.names st.things ++ ws =
      ap (λ l. l ++ laid ρ' st'.things) names
      ∙ ap (λ l. map (written ρ) st.names ++ l) (laid-append ρ' st.things o ∙
      ap (λ l. l ++ cells_of ρ' o) (sym (laid_agree ρ' st.things σ agree holds.typed)) ∙
      ap (λ l. laid ρ st.things ++ l) cells)
      ∙ sym (append_assoc (map (written ρ) st.names) (laid ρ st.things) ws) in
      let at : slice_get (σ ++ s ∷ []) (length st.things) ≡ Some s = get_end σ (length st.things) s (sym long) in
      let one : length st.things + 1 ≡ suc (length st.things) = omega arith in
      let some : length st.things + 1 ≢ 0 = λ e. absurd (omega arith) in
      let count : length st.names ≡ length named = many_length σ st.names named holds.names in
      let new : address (length st.names) (sizes_of st.things) (suc (length st.things)) ≡ suc
      (length (all_cells ρ st.names st.things)) = address_new ρ st.names st.things in
      let spot : length c.words + 1 ≡ ρ (suc (length st.things)) = omega (
        arith,
        words_length,
        ap length holds.words,
        new,
        ap (λ k. address k (sizes_of st.things) (suc (length st.things))) count,
      ) in
      record {
        sorts = σ ++ s ∷ [];
        extends = extends_end σ s;
        holds = record {
          words = ap (λ l. l ++ ws) holds.words ∙ sym all;
          limit = holds.limit;
          count = holds.count;
          table = holds.table;
          within = omega (arith, length-append c.words ws);
          typed = things_end classes (σ ++ s ∷ []) st.things σ o s
              (things_more classes σ (σ ++ s ∷ []) (extends_end σ s) st.things σ holds.typed)
              (thing_more classes σ (σ ++ s ∷ []) (extends_end σ s) o s has);
          names = many_more σ (σ ++ s ∷ []) (extends_end σ s) st.names named holds.names;
        };
        suits = (some, subst (λ k. Refers (σ ++ s ∷ []) k s) (sym one) at);
        word = ap Gives (spot ∙ address-append (length named) st.things (o ∷ []) (suc (length st.things)) (omega arith)
            ∙ ap ρ' (sym one));
        grows = record {
          places = λ n h. address-append (length named) st.things (o ∷ []) n (omega arith);
          things = omega (arith, length-append st.things (o ∷ []));
          cells = omega (arith, total-append st.things o);
        };
      }

  new_case : (o : Thing) (s : ValueType) (ws : List ℕ) (a : Action Value) →
      ThingHas classes σ o s →
      length ws ≡ size_of o →
      cells_of (renaming (length named) (with_new st o)) o ≡ ws →
      Agree a (NewOf s) (making st o) (machine.making c ws)
  new_case o s ws a has size cells = new_test o s ws a has size cells (nat_le (length c.words + length ws) c.limit) refl

  object_case : ((k : ℕ) (class : Class) → slice_get classes k ≡ Some class →
      slice_get sizes k ≡ Some (object_cells (length class.fields))) →
      (t k : ℕ) →
      k < length classes →
      Agree (New k) (NewOf (type.Class k)) (effect classes st t (New k)) (machine.effect c t (New k))
  object_case table t k there =
      let found = get_there classes k there in
      let ss = fields_of classes k in
      let o = Object Free (map start_of ss) in
      let ws = replicate (object_cells (length ss)) 0 in
      let has : ThingHas classes σ o (type.Class k) = (there, starts_have σ ss, tt) in
      let size : length ws ≡ size_of o = length-replicate {A = ℕ} (object_cells (length ss)) 0 ∙
      ap object_cells (sym (length-map ss start_of)) in
      let more : length ss + 1 ≡ suc (length ss) = omega arith in
      let cells : cells_of (renaming (length named) (with_new st o)) o ≡ ws =
      ap (λ l. 0 ∷ l) (start_words (renaming (length named) (with_new st o)) refl ss) ∙
      ap (λ n. replicate n 0) (sym more) in
      let fields : length found.0.fields ≡ length ss = ap (λ z. length (fields_by z)) (sym found.1) in
      let row : slice_get c.sizes k ≡ Some (object_cells (length ss)) = ap (λ l. slice_get l k) holds.table ∙
      table k found.0 found.1 ∙ ap (λ n. Some (object_cells n)) fields in
      agree_at (New k) (NewOf (type.Class k)) _ (making st o) _ _
      (ap (λ l. making st (Object Free l)) (fields_same (slice_get classes k)))
      (ap (λ z. on_cell z (λ size. machine.making c (replicate size 0))) row)
      (new_case o (type.Class k) ws (New k) has size cells)

  lock_made : (t : ℕ) → Agree NewLock (NewOf type.Lock) (effect classes st t NewLock) (machine.effect c t NewLock)
  lock_made t = new_case (LockOf Free) type.Lock (0 ∷ []) NewLock tt refl refl

  markable_made : (t k : ℕ) (v : Value) →
      HasSortBy (Refers σ) v (PairOf k) →
      Agree (NewMarkable v) (NewOf (type.Markable k)) (effect classes st t (NewMarkable v))
      (machine.effect c t (NewMarkable (written ρ v)))
  markable_made t k v has =
      let long : length σ ≡ length st.things = things_length classes σ st.things σ holds.typed in
      let o = Markable v in
      let same = pair_agree σ ρ (renaming (length named) (with_new st o)) v k
      (λ n h. address-append (length named) st.things (o ∷ []) n (omega arith)) has in
      new_case o (type.Markable k) (written ρ v ∷ []) (NewMarkable v) has refl (ap (λ w. w ∷ []) (sym same))

  array_made : (t n : ℕ) →
      Agree (NewArray (pos n)) (NewOf type.BooleanArray) (effect classes st t (NewArray (pos n)))
      (machine.effect c t (NewArray (pos n)))
  array_made t n =
      let ws = n ∷ replicate n 0 in
      new_case (Array n (λ i. Boolean false)) type.BooleanArray ws (NewArray (pos n)) (λ i h. tt)
      (omega (arith, length-replicate {A = ℕ} n 0)) (ap (λ l. n ∷ l) (items_zero n))

  there : (n : ℕ) (s : ValueType) →
      slice_get σ n ≡ Some s →
      (o : Thing) × (slice_get st.things n ≡ Some o) × ThingHas classes σ o s
  there n s h = thing_there classes σ st.things σ n s holds.typed h

  at_sort : (a : Action Value) (s r : Sort) (e : Effect) (d : machine.Effect) → s ≡ r → Agree a r e d → Agree a s e d
  at_sort a s r e d p h = subst (λ z. Agree a z e d) (sym p) h

-- a name of the setup
name_in : (ns : List SetupName) (n : ℕ) (t : ValueType) (o : Option SetupName) →
    slice_get ns n ≡ o →
    (elim o as (λ _. Type 0) [ None ↦ ⊥ | Some name ↦ t ≡ type.Class name.class ]) →
    slice_get (map (λ x. type.Class x.class) ns) n ≡ Some t
name_in [] n t (Some x) e h = cc
name_in (y ∷ ns) zero t (Some x) e h = let e' : y ≡ x = cc in ap (λ z. Some (type.Class z.class)) e' ∙ ap Some (sym h)
name_in (y ∷ ns) (suc n) t (Some x) e h = name_in ns n t (Some x) e h
name_in ns n t None e h = absurd h

-- the types of the setup names' objects
abbrev pub names_of : Program → List ValueType
names_of program = map (λ x. type.Class x.class) program.names

-- a setup name that has a type is in that list with the type
pub name_typed : (program : Program) (n : ℕ) (t : ValueType) →
    NameHas program n t →
    slice_get (names_of program) n ≡ Some t
name_typed program n t h = name_in program.names n t (slice_get program.names n) refl h

module _ (file : File) (program : Program) (sizes : List ℕ) (room : ℕ) (small : room ≤ most_cells)
    (table : (k : ℕ) (class : Class) → slice_get file.classes k ≡ Some class →
    slice_get sizes k ≡ Some (object_cells (length class.fields))) (σ : List ValueType) (st : Store) (c : Cells)
    (holds : Holds file.classes (names_of program) sizes room σ st c) where
  abbrev named : List ValueType
  named = names_of program

  abbrev addresses : ℕ → ℕ
  addresses = renaming (length named) st

  abbrev pub Both : ℕ → Action Value → Sort → Type 0
  Both t a s = Agrees file.classes named sizes room σ st a s (effect file.classes st t a)
      (machine.effect c t (map_action addresses (written addresses) a))

  at : (t : ℕ) (a : Action Value) (s r : Sort) → s ≡ r → Both t a r → Both t a s
  at t a s r p h = subst (λ z. Both t a z) (sym p) h

  named_thing : (n : ℕ) (s : ValueType) →
      slice_get σ n ≡ Some s →
      (o : Thing) × (slice_get st.things n ≡ Some o) × ThingHas file.classes σ o s
  named_thing n s h = thing_there file.classes σ st.things σ n s holds.typed h

  still : (t : ℕ) (a : Action Value) (s : Sort) →
      s ≡ NoValue →
      effect file.classes st t a ≡ Does st Done →
      machine.effect c t (map_action addresses (written addresses) a) ≡ machine.Answers c Done →
      Both t a s
  still t a s h e d =
      cases.agree_at file.classes named sizes room σ st c holds a s _ _ _ _ e d
      (cases.reads file.classes named sizes room σ st c holds a s Done Done h refl)

  -- each action does to the cells what it does to the store
  pub effects_agree : (t : ℕ) (a : Action Value) (s : Sort) → ActionHas file program σ t a s → Both t a s
  effects_agree t (ReadField zero f) s h = absurd h.2
  effects_agree t (ReadField (suc n) f) s h =
      let o = named_thing n (type.Class h.0) h.2 in
      at t (ReadField (suc n) f) s (ValueOf h.1) h.4 (cases.read_case file.classes named sizes room σ st c holds t n f
      h.1 h.0 h.2 h.3 o.0 o.1 o.2)
  effects_agree t (WriteField zero f v) s h = absurd h.2
  effects_agree t (WriteField (suc n) f v) s h =
      let o = named_thing n (type.Class h.0) h.2 in
      at t (WriteField (suc n) f v) s NoValue h.5 (cases.write_case file.classes named sizes room σ st c holds t n f v
      h.1 h.0 h.2 h.3 h.4 o.0 o.1 o.2)
  effects_agree t (ReadItem zero i) s h = absurd h.0
  effects_agree t (ReadItem (suc n) i) s h =
      let o = named_thing n type.BooleanArray h.0 in
      at t (ReadItem (suc n) i) s (ValueOf type.Boolean) h.1
      (ItemCases.item_case file.classes named sizes room small σ st c holds t n i o.0 o.1 o.2)
  effects_agree t (WriteItem zero i v) s h = absurd h.0
  effects_agree t (WriteItem (suc n) i v) s h =
      let o = named_thing n type.BooleanArray h.0 in
      at t (WriteItem (suc n) i v) s NoValue h.2 (ItemCases.set_item_case file.classes named sizes room small σ st c
      holds t n i v h.0 h.1 o.0 o.1 o.2)
  effects_agree t (ReadName n) s h =
      at t (ReadName n) s (ValueOf h.0) h.2 (cases.name_case file.classes named sizes room σ st c holds t n h.0
      (name_typed program n h.0 h.1))
  effects_agree t (WriteName n v) s h =
      at t (WriteName n v) s NoValue h.3 (cases.set_name_case file.classes named sizes room σ st c holds t n v h.0
      (name_typed program n h.0 h.1) h.2)
  effects_agree t (New k) s h = at t (New k) s (NewOf (type.Class k)) h.1
      (object_case file.classes named sizes room small σ st c holds table t k h.0)
  effects_agree t NewLock s h = at t NewLock s (NewOf type.Lock) h
      (lock_made file.classes named sizes room small σ st c holds t)
  effects_agree t (NewMarkable v) s h = at t (NewMarkable v) s (NewOf (type.Markable h.0)) h.2
      (markable_made file.classes named sizes room small σ st c holds t h.0 v h.1)
  effects_agree t (NewArray (pos n)) s h = at t (NewArray (pos n)) s (NewOf type.BooleanArray) h.2
      (array_made file.classes named sizes room small σ st c holds t n)
  effects_agree t (NewArray (negsuc n)) s h = let e = h.1 in cc
  effects_agree t (Lock zero) s h = absurd h.0
  effects_agree t (Lock (suc n)) s h = let o = named_thing n type.Lock h.0 in
      at t (Lock (suc n)) s NoValue h.1 (LockCases.lock_case file.classes named sizes room small σ st c holds t n h.0
      o.0 o.1 o.2)
  effects_agree t (Unlock zero) s h = absurd h.0
  effects_agree t (Unlock (suc n)) s h = let o = named_thing n type.Lock h.0 in
      at t (Unlock (suc n)) s NoValue h.1 (LockCases.unlock_case file.classes named sizes room small σ st c holds t n
      h.0 o.0 o.1 o.2)
  effects_agree t (TryLock zero) s h = absurd h.0
  effects_agree t (TryLock (suc n)) s h = let o = named_thing n type.Lock h.0 in
      at t (TryLock (suc n)) s (ValueOf type.Boolean) h.1 (LockCases.try_case file.classes named sizes room small σ st c
      holds t n h.0 o.0 o.1 o.2)
  effects_agree t (IsHeld zero) s h = absurd h.0
  effects_agree t (IsHeld (suc n)) s h = let o = named_thing n type.Lock h.0 in
      at t (IsHeld (suc n)) s (ValueOf type.Boolean) h.1 (LockCases.held_case file.classes named sizes room small σ st c
      holds t n o.0 o.1 o.2)
  effects_agree t (LockMonitor zero) s h = absurd h.1
  effects_agree t (LockMonitor (suc n)) s h = let o = named_thing n (type.Class h.0) h.1 in
      at t (LockMonitor (suc n)) s NoValue h.2 (LockCases.monitor_case file.classes named sizes room small σ st c holds
      t n h.0 h.1 o.0 o.1 o.2)
  effects_agree t (UnlockMonitor zero) s h = absurd h.1
  effects_agree t (UnlockMonitor (suc n)) s h = let o = named_thing n (type.Class h.0) h.1 in
      at t (UnlockMonitor (suc n)) s NoValue h.2 (LockCases.leave_case file.classes named sizes room small σ st c holds
      t n h.0 h.1 o.0 o.1 o.2)
  effects_agree t (ReadPair zero) s h = absurd h.1
  effects_agree t (ReadPair (suc n)) s h = let o = named_thing n (type.Markable h.0) h.1 in
      at t (ReadPair (suc n)) s (PairOf h.0) h.2 (PairCases.pair_case file.classes named sizes room small σ st c holds t
      n h.0 o.0 o.1 o.2)
  effects_agree t (SetPair zero v) s h = absurd h.1
  effects_agree t (SetPair (suc n) v) s h =
      let o = named_thing n (type.Markable h.0) h.1 in at t (SetPair (suc n) v) s NoValue h.3
      (PairCases.set_case file.classes named sizes room small σ st c holds t n h.0 v h.1 h.2 o.0 o.1 o.2)
  effects_agree t (SwapPair zero e v) s h = absurd h.1
  effects_agree t (SwapPair (suc n) e v) s h =
      let o = named_thing n (type.Markable h.0) h.1 in at t (SwapPair (suc n) e v) s (ValueOf type.Boolean) h.4
      (PairCases.swap_case file.classes named sizes room small σ st c holds t n h.0 e v h.1 h.2 h.3 o.0 o.1 o.2)
  effects_agree t (AttemptMark zero r m) s h = absurd h.1
  effects_agree t (AttemptMark (suc n) r m) s h =
      let o = named_thing n (type.Markable h.0) h.1 in at t (AttemptMark (suc n) r m) s (ValueOf type.Boolean) h.3
      (PairCases.mark_case file.classes named sizes room small σ st c holds t n h.0 r m h.1 h.2 o.0 o.1 o.2)
  effects_agree t Turn s h = still t Turn s h refl refl
  effects_agree t (Enter m) s h = still t (Enter m) s h refl refl
  effects_agree t (Call n) s h = still t (Call n) s h refl refl
  effects_agree t (Return n v) s h = still t (Return n v) s h.1 refl refl
  effects_agree t (Trap n k) s h = still t (Trap n k) s h refl refl
