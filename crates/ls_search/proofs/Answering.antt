-- What a search tells, by what it has found.
use Rattle.std.proofs.Common.{◌≡◌, ℕ, zero, suc, List, [], ◌∷◌, None, Some, refl, ap, subst, arith}
use Rattle.std.specs.Prelude.{slice_get}
use Rattle.std.proofs.lemmas.Option.{get_or_from_slice_get}
use Rattle.ls_events.specs.declared.event.Event.{Event}
use Rattle.ls_checked.specs.CheckedTree.{File}
use Rattle.ls_checked.specs.CheckedProgram.{Program}
use Rattle.ls_meaning.specs.Constants.{FileHasConstants}
use Rattle.ls_search_laws.specs.Noticing.{Noticed}
use Rattle.ls_transitions.specs.Tables.{Table}
use Rattle.ls_search.specs.declared.places.Node.{Node}
use Rattle.ls_search.specs.Places.{configuration_at}
use Rattle.ls_search.specs.Searched.{HidesNames, IsLinked, IsNode, IsSound, pairs_at}

some_is : {A : Type 0} {x y : A} → Some x ≡ Some y → x ≡ y
some_is h = cc

none_not : {A : Type 0} {x : A} → None ≡ Some x → ⊥
none_not h = cc

-- ---- where a search begins

module _ {S : Type 0} (first : S) (next : S → Event → S) (file : File) (program : Program) (threads : ℕ) (t : Table)
    (states : List S) (node : Node) where
  pub sound_first : t.file ≡ file → FileHasConstants file → HidesNames next → node.before ≡ 0 →
      IsNode t states threads node.place →
      IsSound first next file program threads t states (node ∷ [])
  sound_first file_is constants hides before is = record {
    file_is = file_is;
    constants = constants;
    hides = hides;
    are = are;
    linked = linked;
  }
    where
      are : (at : ℕ) (n : Node) → slice_get (node ∷ []) at ≡ Some n → IsNode t states threads n.place
      are zero n e = subst (λ (m : Node). IsNode t states threads m.place) (some_is e) is
      are (suc at) n e = absurd (none_not e)

      linked : (at : ℕ) (n : Node) (p : Noticed S) → slice_get (node ∷ []) at ≡ Some n →
          slice_get (pairs_at first t states (node ∷ [])) at ≡ Some p →
          IsLinked first next file program (pairs_at first t states (node ∷ [])) at n p
      linked zero n p e here = record { later = λ less. absurd (omega arith); is_first = λ past. refl }
      linked (suc at) n p e here = absurd (none_not e)

pub root_pair : {S : Type 0} (first : S) (t : Table) (states : List S) (node : Node) (noted : S) →
    slice_get states node.place.noted ≡ Some noted →
    pairs_at first t states (node ∷ []) ≡
    record { configuration = configuration_at t node.place.store node.place.works.items; noted = noted } ∷ []
root_pair {S} first t states node noted e =
    ap (λ (s : S). record { configuration = configuration_at t node.place.store node.place.works.items; noted = s } ∷
    [])
    (get_or_from_slice_get states node.place.noted noted first e)
