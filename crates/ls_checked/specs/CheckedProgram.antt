-- A thread program as plain data.
use Rattle.std.specs.Prelude.{ℕ, List, Option}
use Rattle.ls_events.specs.declared.value.Value.{Value}
use Rattle.ls_events.specs.declared.value.ValueType.{ValueType}

-- a name that the setup gives, and the class of its object
pub record SetupName : Type 0 where
  pub name : List ℕ
  pub class : ℕ

-- `name = new C(values)`, or `name.method(values)`, with the texts of the class or method
pub data ProgramCall : Type 0 where
  Making : (name class : ℕ) → (class_name : List ℕ) → (values : List Value) → ProgramCall
  Calling : (name method : ℕ) →
      (method_name : List ℕ) →
      (result : Option ValueType) →
      (values : List Value) →
      ProgramCall

pub record ThreadProgram : Type 0 where
  pub name : List ℕ
  pub calls : List ProgramCall

-- thread 0 is the setup
pub record Program : Type 0 where
  pub names : List SetupName
  pub threads : List ThreadProgram
