-- What the rules on declarations answer, of tables whose keys are names.
use Rattle.std.proofs.Common.{◌≡◌, ◌<◌, ◌≤◌, ◌+◌, true, false, nat_lt, List, map, length, Option, Ok, is_some, lt-ltb}
use Rattle.std.proofs.Common.{le-ltb, refl, sym, ap, ◌∙◌}
use Rattle.std.proofs.lemmas.List.{length-map}
use Rattle.std.specs.Global.{Vec, Global}
use Rattle.std.specs.List.{list_any}
use Rattle.std.specs.Map.{lookup}
use Rattle.std.specs.Prelude.{String, string_bytes}
use Rattle.std.specs.String.{string_eq}
use Rattle.indexmap.specs.IndexMap.{insert_entry}
use Rattle.indexmap.specs.IndexSet.{insert_key}
use Rattle.ls_events.specs.declared.value.ValueType.{ValueType}
use Rattle.ls_types_elaboration.specs.declared.rule.Rule.TheVariants.{TwiceDeclared, Limit}
use Rattle.ls_types_elaboration.specs.Trees.{Name, Declarator, ClassTree}
use Rattle.ls_types_elaboration.specs.Elaborated.{broken}
use Rattle.ls_types_files.specs.declared.signs.Met.{Met}
use Rattle.ls_types_elaboration.specs.Signs.{is_reserved, most_classes, most_fields, most_methods, one_name, field_met}
use Rattle.ls_types_elaboration.specs.Signs.{method_met}
use Rattle.ls_types_files.specs.SignViews.{met_of}
use Rattle.ls_types_tables.specs.declared.tables.MethodEntry.{MethodEntry}
use Rattle.ls_types_tables.specs.ByName.{field_entry, method_entry, field_entries_of, method_entries_of}
use Rattle.ls_types_tables.proofs.Keys.{has, any_number, any_field, any_method, field_at, method_at, insert_key_new}
use Rattle.ls_types_tables.proofs.Keys.{insert_entry_new}

module _ (names : List (String Global)) (c : ClassTree) (free : is_reserved c.name.text ≡ false) where
  -- if a class of the name is declared, the rule is broken
  pub name_twice : list_any (has c.name.text) names ≡ true →
      one_name (map string_bytes names) c ≡ broken TwiceDeclared c.name.span
  name_twice there = rw (free, sym (any_number names c.name.text) ∙ there) refl

  module _ (new : list_any (has c.name.text) names ≡ false) where
    -- if there are too many classes, the limit is passed
    pub name_over : most_classes ≤ length names → one_name (map string_bytes names) c ≡ broken Limit c.name.span
    name_over above =
        rw (
          free,
          sym (any_number names c.name.text) ∙ new,
          let e : nat_lt (length (map string_bytes names))
              most_classes ≡ false = rw length-map (le-ltb _ _ above) in e,
        ) refl

    -- else the class is added
    pub name_added : (name : String Global) → string_bytes name ≡ c.name.text → length names < most_classes
        → one_name (map string_bytes names) c ≡ Ok (map string_bytes (insert_key string_eq names name))
    name_added name same below =
        rw (
          free,
          sym (any_number names c.name.text) ∙ new,
          let e : nat_lt (length (map string_bytes names))
              most_classes ≡ true = rw length-map (lt-ltb _ _ below) in e,
        )
        (sym (ap Ok (insert_key_new names name c.name.text same new)))

module _ (t : ValueType) (met : Met) (d : Declarator) where
  -- if a field of the name is declared, the rule is broken
  pub field_twice : is_some (lookup (has d.name.text) met.fields.entries) ≡ true →
      field_met t (met_of met) d ≡ broken TwiceDeclared d.name.span
  field_twice there = rw (sym (any_field met.fields.entries d.name.text) ∙ there) refl

  module _ (new : is_some (lookup (has d.name.text) met.fields.entries) ≡ false) where
    -- if there are too many fields, the limit is passed
    pub field_over : most_fields ≤ length met.fields.entries → field_met t (met_of met) d ≡ broken Limit d.name.span
    field_over above =
        rw (
          sym (any_field met.fields.entries d.name.text) ∙ new,
          let e : nat_lt (length (map field_at met.fields.entries)) most_fields ≡ false = rw length-map
              (le-ltb _ _ above) in e,
        ) refl

    -- else the field is added
    pub field_added : (name : String Global) (fields : List (String Global × ValueType)) →
        string_bytes name ≡ d.name.text →
        length met.fields.entries < most_fields
        → fields ≡ insert_entry string_eq met.fields.entries name t
        → field_met t (met_of met) d
        ≡ Ok (record {
          fields = map field_at fields;
          methods = method_entries_of met.methods;
          constructor = met.constructor;
          parameters = met.parameters.items;
          next = met.next;
        })
    field_added name fields same below after =
        rw (
          sym (any_field met.fields.entries d.name.text) ∙ new,
          let e : nat_lt (length (map field_at met.fields.entries)) most_fields ≡ true = rw length-map
              (lt-ltb _ _ below) in e,
        )
        (let e = ap (map field_at) after ∙ insert_entry_new field_entry met.fields.entries name t d.name.text same new
        in
        ap (λ fs. Ok (record {
          fields = fs;
          methods = method_entries_of met.methods;
          constructor = met.constructor;
          parameters = met.parameters.items;
          next = met.next;
        })) (sym e))

module _ (met : Met) (n : Name) (types : Vec ValueType) (answers : Option ValueType) where
  -- if a method of the name is declared, the rule is broken
  pub method_twice : is_some (lookup (has n.text) met.methods.entries) ≡ true →
      method_met (met_of met) n types.items answers ≡ broken TwiceDeclared n.span
  method_twice there = rw (sym (any_method met.methods.entries n.text) ∙ there) refl

  module _ (new : is_some (lookup (has n.text) met.methods.entries) ≡ false) where
    -- if there are too many methods, the limit is passed
    pub method_over : most_methods ≤ met.next → method_met (met_of met) n types.items answers ≡ broken Limit n.span
    method_over above =
        rw (
          sym (any_method met.methods.entries n.text) ∙ new,
          let e : nat_lt met.next most_methods ≡ false = le-ltb _ _ above in e,
        ) refl

    -- else the method is added
    pub method_added : (name : String Global) (methods : List (String Global × MethodEntry)) →
        string_bytes name ≡ n.text →
        met.next < most_methods
        → methods ≡ insert_entry string_eq met.methods.entries name
        (record { number = met.next; parameters = types; result = answers })
        → method_met (met_of met) n types.items answers
        ≡ Ok (record {
          fields = field_entries_of met.fields;
          methods = map method_at methods;
          constructor = met.constructor;
          parameters = met.parameters.items;
          next = met.next + 1;
        })
    method_added name methods same below after =
        rw (
          sym (any_method met.methods.entries n.text) ∙ new,
          let e : nat_lt met.next most_methods ≡ true = lt-ltb _ _ below in e,
        )
        (let e = ap (map method_at) after ∙ insert_entry_new method_entry met.methods.entries name
        (record { number = met.next; parameters = types; result = answers }) n.text same new in
        ap (λ ms. Ok (record {
          fields = field_entries_of met.fields;
          methods = ms;
          constructor = met.constructor;
          parameters = met.parameters.items;
          next = met.next + 1;
        })) (sym e))
