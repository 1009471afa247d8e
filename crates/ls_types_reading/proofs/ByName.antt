-- What names find among values of which each name keeps its first.
use Rattle.std.proofs.Common.{◌≡◌, ℕ, suc, ◌+◌, ◌<◌, Bool, true, false, List, [], ◌∷◌, ◌++◌, map, length, Option, None}
use Rattle.std.proofs.Common.{Some, Bor, option_map, is_some, refl, sym, ap, ap₂, ◌∙◌, arith, slice_get, slice_index_or}
use Rattle.std.proofs.Common.{take, drop, drop-cons, add-one}
use Rattle.std.proofs.lemmas.List.{length-map, map-append, take_more}
use Rattle.std.proofs.lemmas.Option.{slice_get-map}
use Rattle.std.proofs.lemmas.Slice.Eq.{bytes_eq-Decides}
use Rattle.std.specs.Global.{Global}
use Rattle.std.specs.Map.{lookup}
use Rattle.std.specs.Prelude.{if◌then◌else◌, String, string_bytes}
use Rattle.std.specs.Str.{bytes_eq}
use Rattle.std.specs.String.{string_eq}
use Rattle.indexmap.specs.IndexMap.{IndexMap, insert_entry}
use Rattle.ls_checked.specs.CheckedProgram.{SetupName}
use Rattle.ls_checked.specs.PlainProgram.{plain_name}
use Rattle.ls_checked.specs.declared.program.SetupName as names
use Rattle.ls_types_elaboration.specs.Trees.{Text}
use Rattle.ls_types_elaboration.specs.Known.{MethodSign, ClassSign, method_named, methods_in}
use Rattle.ls_types_elaboration.specs.Tables.{method_sign_of, class_sign_of}
use Rattle.ls_types_elaboration.specs.declared.known.MethodSign as declared
use Rattle.ls_types_elaboration.specs.declared.known.ClassSign as classes
use Rattle.ls_types_programs.specs.ProgramCalls.{setup_named}
use Rattle.ls_types_tables.proofs.Keys.{has, swapped, insert_entry_new}
use Rattle.ls_types_reading.specs.ByName.{value_named, with_first}
use Rattle.ls_types_reading.specs.MethodsByName.{sign_seen, finds, declares, finds_in, Finds}

-- the first of two values that is there
abbrev pub first_of : {X : Type 0} → Option X → Option X → Option X
first_of None o = o
first_of (Some x) o = Some x

first_alone : {X : Type 0} (o : Option X) → o ≡ first_of o None
first_alone None = refl
first_alone (Some x) = refl

abbrev pub entry_seen : {V : Type 0} → String Global × V → Text × V
entry_seen e = (string_bytes e.0, e.1)

-- a key finds what its name does
pub value_found : {V : Type 0} (es : List (String Global × V)) (name : Text) →
    lookup (has name) es ≡ value_named (map entry_seen es) name
value_found [] name = refl
value_found (e ∷ es) name = λ j. if swapped name e.0 j then Some e.1 else value_found es name j

-- if a name is given already, nothing changes
pub given_twice : {V : Type 0} (es : List (String Global × V)) (name : Text) (v : V) →
    true ≡ is_some (lookup (has name) es)
    → map entry_seen es ≡ with_first (map entry_seen es) name v
given_twice es name v there = rw (sym (there ∙ ap is_some (value_found es name))) refl

-- if a name is new, it is added
pub given_new : {V : Type 0} (es after : List (String Global × V)) (k : String Global) (name : Text) (v : V) →
    string_bytes k ≡ name
    → false ≡ is_some (lookup (has name) es) → after ≡ insert_entry string_eq es k v
    → map entry_seen after ≡ with_first (map entry_seen es) name v
given_new es after k name v same absent is =
    rw (sym (absent ∙ ap is_some (value_found es name)))
    (ap (map entry_seen) is ∙ insert_entry_new (λ n v. (n, v)) es k v name same (sym absent))

value_append : {V : Type 0} (es : List (Text × V)) (k : Text) (v : V) (name : Text)
    → value_named (es ++ (k, v) ∷ []) name ≡ first_of (value_named es name) (if bytes_eq k name then Some v else None)
value_append [] k v name = refl
value_append {V} (e ∷ es) k v name = by (bytes_eq e.0 name) (value_append es k v name)
  where
    by : (b : Bool) →
        value_named (es ++ (k, v) ∷ []) name ≡ first_of (value_named es name) (if bytes_eq k name then Some v else None)
        → (if b then Some e.1 else value_named (es ++ (k, v) ∷ []) name)
        ≡ first_of (if b then Some e.1 else value_named es name) (if bytes_eq k name then Some v else None)
    by true rest = refl
    by false rest = rest

-- what was there is found first
pub value_given : {V : Type 0} (es : List (Text × V)) (k : Text) (v : V) (name : Text)
    → value_named (with_first es k v) name ≡ first_of (value_named es name) (if bytes_eq k name then Some v else None)
value_given {V} es k v name = by (value_named es k) refl
  where
    there : (w : V) → value_named es k ≡ Some w → (b : Bool) → bytes_eq k name ≡ b
        → value_named es name ≡ first_of (value_named es name) (if b then Some v else None)
    there w e true is =
        let same : value_named es name ≡ Some w = ap (value_named es) (sym ((bytes_eq-Decides k name).0 is)) ∙ e in
        rw same refl
    there w e false is = first_alone (value_named es name)

    by : (o : Option V) → value_named es k ≡ o
        → value_named (with_first es k v) name ≡ first_of (value_named es name)
        (if bytes_eq k name then Some v else None)
    by None e = rw e (value_append es k v name)
    by (Some w) e = rw e (there w e (bytes_eq k name) refl)

-- the number of a setup name
abbrev next : Option ℕ → Option ℕ
next i = option_map (λ i. i + 1) i

setup_last : (ns : List SetupName) (n : SetupName) (name : Text)
    → setup_named (ns ++ n ∷ []) name ≡ first_of (setup_named ns name)
    (if bytes_eq n.name name then Some (length ns) else None)
setup_last [] n name = refl
setup_last (m ∷ ns) n name =
    by (bytes_eq m.name name) (setup_last ns n name) ∙ after (setup_named ns name) (bytes_eq n.name name)
    (bytes_eq m.name name)
  where
    by : (b : Bool) →
        setup_named (ns ++ n ∷ []) name ≡ first_of (setup_named ns name)
        (if bytes_eq n.name name then Some (length ns) else None)
        → (if b then Some 0 else next (setup_named (ns ++ n ∷ []) name))
        ≡ (if b then Some 0 else next (first_of (setup_named ns name)
        (if bytes_eq n.name name then Some (length ns) else None)))
    by true rest = refl
    by false rest = ap next rest

    more : (l : ℕ) → l + 1 ≡ suc l
    more l = grind arith

    after : (o : Option ℕ) (last b : Bool)
        → (if b then Some 0 else next (first_of o (if last then Some (length ns) else None)))
        ≡ first_of (if b then Some 0 else next o) (if last then Some (length (m ∷ ns)) else None)
    after o last true = refl
    after (Some i) last false = refl
    after None true false = ap Some (more (length ns))
    after None false false = refl

pub setup_given : (es : List (Text × ℕ)) (ns : List SetupName) (k : Text) (c : ℕ) →
    ((name : Text) → value_named es name ≡ setup_named ns name)
    → (name : Text) → value_named (with_first es k (length ns)) name ≡ setup_named
    (ns ++ record { name = k; class = c } ∷ []) name
setup_given es ns k c is name =
    value_given es k (length ns) name
    ∙ ap (λ o. first_of o (if bytes_eq k name then Some (length ns) else None)) (is name)
    ∙ sym (setup_last ns (record { name = k; class = c }) name)

-- one more name of the setup
pub setup_pushed : (es after : List (Text × ℕ)) (k : Text) (n : ℕ) (names new : List names.SetupName)
    (owned : String Global) (c : ℕ)
    → ((name : Text) → value_named es name ≡ setup_named (map plain_name names) name) → n ≡ length names →
    string_bytes owned ≡ k
    → after ≡ with_first es k n → new ≡ names ++ record { name = owned; class = c } ∷ []
    → (name : Text) → value_named after name ≡ setup_named (map plain_name new) name
setup_pushed es after k n names new owned c is len same given pushed name =
    ap (λ es. value_named es name) (given ∙ ap (with_first es k) (len ∙ sym (length-map names plain_name)))
    ∙ setup_given es (map plain_name names) k c is name
    ∙ ap (λ ns. setup_named ns name)
    (ap (λ k. map plain_name names ++ record { name = k; class = c } ∷ []) (sym same)
    ∙ sym (map-append plain_name names (record { name = owned; class = c } ∷ []))
    ∙ ap (map plain_name) (sym pushed))

-- a method of a name, after those that are given
pub method_given : {V : Type 0} (view : V → MethodSign) (es : List (Text × V)) (v : V) (rest : List MethodSign)
    (name : Text)
    → first_of (option_map view (value_named (with_first es (view v).name v) name)) (method_named rest name)
    ≡ first_of (option_map view (value_named es name)) (method_named (view v ∷ rest) name)
method_given {V} view es v rest name =
    ap (λ o. first_of (option_map view o) (method_named rest name)) (value_given es (view v).name v name)
    ∙ by (value_named es name) (bytes_eq (view v).name name)
  where
    by : (o : Option V) (b : Bool)
        → first_of (option_map view (first_of o (if b then Some v else None))) (method_named rest name)
        ≡ first_of (option_map view o) (if b then Some (view v) else method_named rest name)
    by None true = refl
    by None false = refl
    by (Some w) b = refl

left_at : (ms : List declared.MethodSign) (i : ℕ) (m : declared.MethodSign) →
    i < length ms →
    m ≡ slice_index_or ms i m →
    drop i ms ≡ m ∷ drop (i + 1) ms
left_at ms i m l e = drop-cons ms i m l ∙ ap (λ z. z ∷ drop (suc i) ms) (sym e) ∙
    ap (λ n. m ∷ drop n ms) (sym (add-one i))

-- one more method of a class is given
pub one_given : (es after : List (Text × Bor declared.MethodSign)) (k : Text) (v : Bor declared.MethodSign)
    (ms : List declared.MethodSign) (i : ℕ)
    → i < length ms → v.now ≡ slice_index_or ms i v.now → k ≡ string_bytes v.now.name → after ≡ with_first es k v
    → (name : Text) (found : Option MethodSign)
    → first_of (option_map sign_seen (value_named es name)) (method_named (map method_sign_of (drop i ms)) name) ≡ found
    → first_of (option_map sign_seen (value_named after name))
    (method_named (map method_sign_of (drop (i + 1) ms)) name) ≡ found
one_given es after k v ms i within is key given name found before =
    ap (λ es. first_of (option_map sign_seen (value_named es name))
    (method_named (map method_sign_of (drop (i + 1) ms)) name))
    (given ∙ ap (λ k. with_first es k v) key)
    ∙ method_given sign_seen es v (map method_sign_of (drop (i + 1) ms)) name
    ∙ ap (λ ms. first_of (option_map sign_seen (value_named es name)) (method_named (map method_sign_of ms) name))
    (sym (left_at ms i v.now within is))
    ∙ before

-- if no method is left, all are given
pub all_given : (o : Option MethodSign) (name : Text) → first_of o (method_named [] name) ≡ o
all_given None name = refl
all_given (Some m) name = refl

-- the class of a number
abbrev asked : {X Y : Type 0} → Option (X → Option Y) → X → Option Y
asked None x = None
asked (Some f) x = f x

-- if each table finds what its class declares, the tables find the methods of classes
pub class_finds : {S : Type 0} (ts : List (IndexMap (String Global) (Bor declared.MethodSign) S)) (cs : List ClassSign)
    → map finds ts ≡ map declares cs → Finds ts cs
class_finds {S} ts cs is c name =
    sym (of_table (slice_get ts c))
    ∙ ap (λ o. asked o name) (sym (slice_get-map finds ts c) ∙ ap (λ fs. slice_get fs c) is ∙
    slice_get-map declares cs c)
    ∙ of_class (slice_get cs c)
  where
    of_table : (t : Option (IndexMap (String Global) (Bor declared.MethodSign) S)) →
        asked (option_map finds t) name ≡ finds_in t name
    of_table None = refl
    of_table (Some t) = refl

    of_class : (o : Option ClassSign) → asked (option_map declares o) name ≡ method_named (methods_in o) name
    of_class None = refl
    of_class (Some c) = refl

-- one more class
pub class_given : {S : Type 0} (ts after : List (IndexMap (String Global) (Bor declared.MethodSign) S))
    (t : IndexMap (String Global) (Bor declared.MethodSign) S)
    (cs : List classes.ClassSign) (i : ℕ) (c : classes.ClassSign) → i < length cs → c ≡ slice_index_or cs i c
    → after ≡ ts ++ t ∷ [] → ((name : Text) → finds t name ≡ method_named (map method_sign_of c.methods.items) name)
    → map finds ts ≡ map declares (map class_sign_of (take i cs)) →
    map finds after ≡ map declares (map class_sign_of (take (i + 1) cs))
class_given ts after t cs i c within is pushed found before =
    let same : finds t ≡ declares (class_sign_of c) = λ j name. found name j in
    let more : take (i + 1) cs ≡ take i cs ++ c ∷ [] = take_more cs i c within ∙
    ap (λ x. take i cs ++ x ∷ []) (sym is) in
    ap (map finds) pushed
    ∙ map-append finds ts (t ∷ [])
    ∙ ap₂ (λ fs f. fs ++ f ∷ []) before same
    ∙ sym (map-append declares (map class_sign_of (take i cs)) (class_sign_of c ∷ []))
    ∙ ap (map declares) (sym (map-append class_sign_of (take i cs) (c ∷ [])))
    ∙ ap (λ cs. map declares (map class_sign_of cs)) (sym more)
