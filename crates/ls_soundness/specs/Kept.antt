-- The checked form of a text keeps the slot of each monitor's object: no statement of the block assigns to it. So if
-- there are at least as many values of locals as slots, the course is the standard's (JLS 14.19).
use Rattle.std.specs.Prelude.{◌≡◌, ℕ, ◌+◌, ◌<◌, ◌≤◌, true, List, [], ◌∷◌, length, Ok, All}
use Rattle.ls_events.specs.declared.value.Value.{Value}
use Rattle.ls_checked.specs.CheckedTree.{Class, Method, Expression, Slot, Statement, Block, If, While, Try, Statements}
use Rattle.ls_checked.specs.CheckedTree.{Done, Then}
use Rattle.ls_meaning.specs.Course.{Answers}
use Rattle.ls_meaning.specs.Expressions.{Calls}
use Rattle.ls_meaning.specs.Statements.{execute}
use Rattle.ls_types_elaboration.specs.Trees as parsed
use Rattle.ls_types_elaboration.specs.Known.{Local}
use Rattle.ls_types_elaboration.specs.Scopes.{Body, Slots, Scope}
use Rattle.ls_types_elaboration.specs.Monitors.{synchronized}
use Rattle.ls_types_elaboration.specs.TypedStatements.{Loops, WithSlots, Monitor, monitor, statement}
use Rattle.ls_types_elaboration.specs.TypedMethods.{all_items}
use Rattle.ls_types_elaboration.specs.Elaboration.{ElaboratedFile, elaborated}
use Rattle.ls_soundness.specs.Meaning.{Leaves, monitored}

-- the locals in scope are in slots that the method has so far
abbrev pub AreWithin : Slots → List Local → Type 0
AreWithin slots locals = All (λ (l : Local). l.slot < length slots.types) locals

-- `synchronized (target) block`: the object is the checked form of the expression, and its slot is the next one
abbrev pub KeepsTheSlot : Type 0
KeepsTheSlot =
    (body : Body) (loops : Loops) (locals : List Local) (slots : Slots) (target : parsed.Expression)
    (block : parsed.Items) (out : WithSlots Statement) →
    AreWithin slots locals →
    statement body loops locals slots (parsed.Synchronized target block) ≡ Ok out →
    (m : Monitor) × (inner : Statement)
    × (monitor body.known locals target ≡ Ok m)
    × (out.tree ≡ synchronized (length slots.types) m.class m.object inner)
    × Leaves (length slots.types) inner

-- a synchronized method: the object is `this` (JLS 8.4.3.6)
abbrev pub MethodKeepsTheSlot : Type 0
MethodKeepsTheSlot =
    (body : Body) (scope out : Scope) (block : parsed.Items) →
    scope.statements ≡ [] →
    AreWithin scope.slots scope.locals →
    all_items body true scope block ≡ Ok out →
    (inner : Statement)
    × (out.statements ≡ synchronized (length scope.slots.types) body.known.own (Slot 0) inner ∷ [])
    × Leaves (length scope.slots.types) inner

-- over at least `count` values of locals, the course of a statement is the standard's for the monitor and the block
abbrev pub IsMonitored : ℕ → Statement → ℕ → Expression → Statement → Type 0
IsMonitored count s slot target inner =
    (classes : List Class) (calls : Calls) (values : List Value) (answers : Answers) →
    count ≤ length values →
    execute classes calls s values answers ≡ monitored classes calls slot target inner values answers

-- the same of `synchronized (target) block`
abbrev pub HoldsItsMonitor : Type 0
HoldsItsMonitor =
    (body : Body) (loops : Loops) (locals : List Local) (slots : Slots) (target : parsed.Expression)
    (block : parsed.Items) (out : WithSlots Statement) →
    AreWithin slots locals →
    statement body loops locals slots (parsed.Synchronized target block) ≡ Ok out →
    (m : Monitor) × (inner : Statement)
    × (monitor body.known locals target ≡ Ok m)
    × (out.tree ≡ synchronized (length slots.types) m.class m.object inner)
    × IsMonitored (length slots.types + 1) out.tree (length slots.types) m.object inner

-- what holds of a statement and of each statement in it
abbrev mutual
  pub Everywhere : (Statement → Type 0) → Statement → Type 0
  Everywhere P (Block ss) = P (Block ss) × EverywhereIn P ss
  Everywhere P (If e a b) = P (If e a b) × Everywhere P a × Everywhere P b
  Everywhere P (While e s) = P (While e s) × Everywhere P s
  Everywhere P (Try b f) = P (Try b f) × Everywhere P b × Everywhere P f
  Everywhere P s = P s

  pub EverywhereIn : (Statement → Type 0) → Statements → Type 0
  EverywhereIn P Done = Unit {0}
  EverywhereIn P (Then s ss) = Everywhere P s × EverywhereIn P ss

-- a statement of a method with `count` slots, if it holds a monitor
abbrev pub HoldsMonitors : ℕ → Statement → Type 0
HoldsMonitors count s =
    (slot class : ℕ) (target : Expression) (inner : Statement) →
    s ≡ synchronized slot class target inner →
    IsMonitored count s slot target inner

-- each statement of each method of a file
abbrev pub FileHoldsMonitors : Type 0
FileHoldsMonitors =
    (file : parsed.File) (out : ElaboratedFile) →
    elaborated file ≡ Ok out →
    All (λ (m : Method). Everywhere (HoldsMonitors (length m.slots)) m.body) out.file.methods
