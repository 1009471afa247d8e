-- A small file with a making is typed, and its call and the call's words are evaluated.
use Rattle.std.proofs.Common.{◌≡◌, zero, suc, [], ◌∷◌, Some, None, refl, ap, subst, arith}
use Rattle.std.specs.Prelude.{Option}
use Rattle.ls_events.specs.declared.value.ValueType.TheVariants as types
use Rattle.ls_events.specs.declared.action.Action.TheVariants as act
use Rattle.ls_events.specs.declared.action.Answer.TheVariants as answer
use Rattle.ls_checked.specs.CheckedTree.{File, Method, Evaluate, MakeObject, End}
use Rattle.ls_meaning.specs.declared.sort.Sort.TheVariants.{ValueOf}
use Rattle.ls_lowered.specs.Course as low
use Rattle.ls_lowered.specs.Methods.{invoke}
use Rattle.ls_types_judgement.specs.Typing.{IsTypedMethod, IsTypedFile}
use Rattle.ls_refs.specs.Lowered.{lowered_file}

-- class C { C() { new C(); } }
abbrev maker : Method
maker = record {
  class = 0;
  parameters = 0;
  slots = types.Class 0 ∷ [];
  result = None;
  body = Evaluate (MakeObject 0 End);
}

abbrev file : File
file = record { classes = record { fields = []; constructor = 0 } ∷ []; methods = maker ∷ [] }

abbrev or_maker : Option Method → Method
or_maker None = maker
or_maker (Some m) = m

is_typed : IsTypedFile file
is_typed zero m e = subst (λ z. IsTypedMethod file z) (ap or_maker e)
    (record {
      locals = [];
      this = refl;
      parameters = omega arith;
      body = (ValueOf (types.Class 0), (maker, refl, refl, refl, tt));
    })
is_typed (suc n) m e = absurd (none e)
  where
    none : {x : Method} → None ≡ Some x → ⊥
    none e = cc

-- it enters, makes an object, and enters again
asks : invoke (lowered_file file) 64 0 (7 ∷ []) (answer.Done ∷ answer.Gives 8 ∷ []) ≡ low.Asked (act.Enter 0)
unfolding invoke
asks = refl
