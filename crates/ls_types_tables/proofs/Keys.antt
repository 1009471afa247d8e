-- What the tables of names find and take.
use Rattle.std.proofs.Common.{◌≡◌, ℕ, ◌+◌, Bool, true, false, cond, ◌||◌, List, [], ◌∷◌, ◌++◌, map, Option, None, Some}
use Rattle.std.proofs.Common.{Bor, option_map, option_copied, is_some, refl, sym, ap, ◌∙◌, position}
use Rattle.std.proofs.lemmas.List.{map-append}
use Rattle.std.proofs.lemmas.Slice.Eq.{bytes_eq-Decides}
use Rattle.std.specs.Cmp.Lexicographic.{nat_list_eq_equiv}
use Rattle.std.specs.Global.{Global}
use Rattle.std.specs.List.{list_any}
use Rattle.std.specs.Map.{keys_of, lookup}
use Rattle.std.specs.Prelude.{if◌then◌else◌, String, string_bytes}
use Rattle.std.specs.Str.{bytes_eq}
use Rattle.std.specs.String.{string_eq}
use Rattle.indexmap.specs.IndexMap.{insert_entry}
use Rattle.indexmap.specs.IndexSet.{insert_key}
use Rattle.ls_events.specs.declared.value.ValueType.{ValueType}
use Rattle.ls_types_elaboration.specs.Trees.{Text}
use Rattle.ls_types_elaboration.specs.declared.known.FoundField.{FoundField}
use Rattle.ls_types_elaboration.specs.Known.{number_of, field_named, method_named}
use Rattle.ls_types_elaboration.specs.Known as known
use Rattle.ls_types_elaboration.proofs.Named.{next, position_from_first}
use Rattle.ls_types_tables.specs.declared.tables.MethodEntry.{MethodEntry}
use Rattle.ls_types_tables.specs.ByName.{field_entry, method_entry}

-- the test by which a text finds a key
abbrev pub has : Text → String Global → Bool
has name k = bytes_eq name (string_bytes k)

-- the test the other way round
pub swapped : (name : Text) (k : String Global) → has name k ≡ bytes_eq (string_bytes k) name
swapped name k = nat_list_eq_equiv.symm name (string_bytes k)

-- a name's number
pub position_number : (ks : List (String Global)) (name : Text) →
    position (has name) ks ≡ number_of (map string_bytes ks) name
position_number [] name = refl
position_number (k ∷ ks) name =
    position_from_first (has name) k ks
    ∙ (λ j. if swapped name k j then Some 0 else next (position_number ks name j))

-- a name has a number exactly if it is there
any_step : (b a : Bool) (i : Option ℕ) → a ≡ is_some i → (b || a) ≡ is_some (if b then Some 0 else next i)
any_step true a i e = refl
any_step false a None e = e
any_step false a (Some i) e = e

-- a key of the name is there exactly if the name has a number
pub any_number : (ks : List (String Global)) (name : Text) →
    list_any (has name) ks ≡ is_some (number_of (map string_bytes ks) name)
any_number [] name = refl
any_number (k ∷ ks) name =
    any_step (has name k) (list_any (has name) ks) (number_of (map string_bytes ks) name) (any_number ks name)
    ∙ (λ j. is_some (if swapped name k j then Some 0 else next (number_of (map string_bytes ks) name)))

-- a new name goes last
pub insert_key_new : (ks : List (String Global)) (k : String Global) (name : Text) →
    string_bytes k ≡ name →
    list_any (has name) ks ≡ false
    → map string_bytes (insert_key string_eq ks k) ≡ map string_bytes ks ++ name ∷ []
insert_key_new ks k name same absent =
    let new : list_any (string_eq k) ks ≡ false = ap (λ t. list_any (has t) ks) same ∙ absent in
    ap (λ b. map string_bytes (if b then ks else ks ++ k ∷ [])) new
    ∙ map-append string_bytes ks (k ∷ [])
    ∙ ap (λ t. map string_bytes ks ++ t ∷ []) same

-- so does a new entry
entry_added : {V X : Type 0} (view : String Global × V → X) (es : List (String Global × V)) (k : String Global) (v : V)
    → is_some (lookup (string_eq k) es) ≡ false
    → map view (insert_entry string_eq es k v) ≡ map view es ++ view (k, v) ∷ []
entry_added view [] k v absent = refl
entry_added {V} {X} view (e ∷ es) k v absent = one (string_eq k e.0) absent (entry_added view es k v)
  where
    one : (b : Bool) → is_some (cond b (Some e.1) (lookup (string_eq k) es)) ≡ false
        → (is_some (lookup (string_eq k) es) ≡ false → map view (insert_entry string_eq es k v) ≡ map view es ++
        view (k, v) ∷ [])
        → map view (if b then (e.0, v) ∷ es else e ∷ insert_entry string_eq es k v) ≡ view e ∷
        (map view es ++ view (k, v) ∷ [])
    one true gone rest = absurd cc
    one false gone rest = ap (λ l. view e ∷ l) (rest gone)

-- a new entry goes last
pub insert_entry_new : {V X : Type 0} (view : Text → V → X) (es : List (String Global × V)) (k : String Global) (v : V)
    (name : Text)
    → string_bytes k ≡ name → is_some (lookup (has name) es) ≡ false
    → map (λ e. view (string_bytes e.0) e.1) (insert_entry string_eq es k v) ≡ map (λ e. view (string_bytes e.0) e.1) es
    ++ view name v ∷ []
insert_entry_new view es k v name same absent =
    entry_added (λ e. view (string_bytes e.0) e.1) es k v (ap (λ t. is_some (lookup (has t) es)) same ∙ absent)
    ∙ ap (λ t. map (λ e. view (string_bytes e.0) e.1) es ++ view t v ∷ []) same

-- a field as an entry of the table has it
abbrev pub field_at : String Global × ValueType → known.FieldSign
field_at f = field_entry (string_bytes f.0) f.1

-- the field that a table finds
abbrev found_field : Option ℕ → Option ValueType → Option FoundField
found_field None t = None
found_field (Some i) None = None
found_field (Some i) (Some t) = Some (record { number = i; value_type = t })

abbrev next_field : Option FoundField → Option FoundField
next_field f = option_map (λ x. record { number = x.number + 1; value_type = x.value_type }) f

field_step : (b : Bool) (i : Option ℕ) (first : ValueType) (t : Option ValueType) (f : Option FoundField) →
    found_field i t ≡ f
    → found_field (if b then Some 0 else next i) (cond b (Some first) t) ≡
    (if b then Some (record { number = 0; value_type = first }) else next_field f)
field_step true i first t f e = refl
field_step false None first t f e = ap next_field e
field_step false (Some i) first None f e = ap next_field e
field_step false (Some i) first (Some t) f e = ap next_field e

table_field : (es : List (String Global × ValueType)) (name : Text)
    → found_field (position (has name) (keys_of es)) (lookup (has name) es) ≡ field_named (map field_at es) name
table_field [] name = refl
table_field (e ∷ es) name =
    ap (λ i. found_field i (lookup (has name) (e ∷ es))) (position_from_first (has name) e.0 (keys_of es))
    ∙ field_step (has name e.0) (position (has name) (keys_of es)) e.1 (lookup (has name) es)
    (field_named (map field_at es) name) (table_field es name)
    ∙ (λ j. if swapped name e.0 j then Some (record { number = 0; value_type = e.1 }) else
    next_field (field_named (map field_at es) name))

-- the field that a table finds
pub field_there : (es : List (String Global × ValueType)) (name : Text) (i : ℕ) (t : ValueType)
    → Some i ≡ position (has name) (keys_of es) → Some t ≡ lookup (has name) es
    → Some (record { number = i; value_type = t }) ≡ field_named (map field_at es) name
field_there es name i t at is = (λ j. found_field (at j) (is j)) ∙ table_field es name

-- if a table finds no field, there is none of the name
pub field_missing : (es : List (String Global × ValueType)) (name : Text) → None ≡ position (has name) (keys_of es)
    → None ≡ field_named (map field_at es) name
field_missing es name at = (λ j. found_field (at j) (lookup (has name) es)) ∙ table_field es name

-- a field is found exactly if its name is there
pub any_field : (es : List (String Global × ValueType)) (name : Text) →
    is_some (lookup (has name) es) ≡ is_some (field_named (map field_at es) name)
any_field [] name = refl
any_field (e ∷ es) name =
    one (has name e.0) (lookup (has name) es) (field_named (map field_at es) name) (any_field es name)
    ∙ (λ j. is_some (if swapped name e.0 j then Some (record { number = 0; value_type = e.1 }) else
    next_field (field_named (map field_at es) name)))
  where
    one : (b : Bool) (t : Option ValueType) (f : Option FoundField) → is_some t ≡ is_some f
        → is_some (cond b (Some e.1) t) ≡ is_some (if b then Some (record { number = 0; value_type = e.1 }) else
        next_field f)
    one true t f h = refl
    one false t None h = h
    one false t (Some f) h = h

-- a method as an entry of the table has it
abbrev pub method_at : String Global × MethodEntry → known.MethodSign
method_at m = method_entry (string_bytes m.0) m.1

-- the method that a table finds
pub table_method : (es : List (String Global × MethodEntry)) (name : Text)
    → option_map (method_entry name) (lookup (has name) es) ≡ method_named (map method_at es) name
table_method [] name = refl
table_method (e ∷ es) name = by (has name e.0) refl (table_method es name)
  where
    by : (b : Bool) → has name e.0 ≡ b
        → option_map (method_entry name) (lookup (has name) es) ≡ method_named (map method_at es) name
        → option_map (method_entry name) (lookup (has name) (e ∷ es)) ≡ method_named (map method_at (e ∷ es)) name
    by true is rest =
        rw (is, sym (swapped name e.0) ∙ is) (ap (λ n. Some (method_entry n e.1))
        ((bytes_eq-Decides name (string_bytes e.0)).0 is))
    by false is rest = rw (is, sym (swapped name e.0) ∙ is) rest

-- a method is found exactly if its name is there
pub any_method : (es : List (String Global × MethodEntry)) (name : Text) →
    is_some (lookup (has name) es) ≡ is_some (method_named (map method_at es) name)
any_method es name = some_seen (lookup (has name) es) ∙ ap is_some (table_method es name)
  where
    some_seen : (m : Option MethodEntry) → is_some m ≡ is_some (option_map (method_entry name) m)
    some_seen None = refl
    some_seen (Some m) = refl

-- a method that is found, seen
pub plain_method : {M X : Type 0} (view : M → X) (m : Option (Bor M)) →
    option_map (λ m. view m.now) m ≡ option_map view (option_copied m)
plain_method view None = refl
plain_method view (Some m) = refl
