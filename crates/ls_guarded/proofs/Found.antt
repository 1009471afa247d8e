-- What is found of the methods of a file.
use Rattle.std.proofs.Common.{arith, ◌≡◌, ◌<◌, ◌+◌, ℕ, zero, suc, Bool, List, [], ◌∷◌, Some, length, slice_get, ◌∙◌}
use Rattle.std.proofs.Common.{ap, subst}
use Rattle.ls_checked.specs.CheckedTree.{Class, File, Method, Statement, Then, Done, Block, SetSlot, Slot}
use Rattle.ls_one_at_a_time.specs.Inner.{AreHelpers, IsSynchronized, RunsPlain, synchronized_body}
use Rattle.ls_guarded.specs.Marks.{IsMarked}
use Rattle.ls_guarded.specs.Methods.{ArePlainFrom, IsGuarded, HasField}
use Rattle.ls_guarded.specs.Rounds.{IsMonitorBody, IsGuardedBody, hold_monitor}

pub plain_one : (marks : List Bool) (classes : List Class) (k : ℕ) (xs : List Method) →
    ArePlainFrom marks classes k xs →
    (m : ℕ) (method : Method) → slice_get xs m ≡ Some method → IsMarked marks (k + m) →
    RunsPlain (IsMarked marks) classes 0 method.body
plain_one marks classes k [] all m method there is = cc
plain_one marks classes k (x ∷ xs) all zero method there is =
    let at : k + 0 ≡ k = omega arith in
    let same : x ≡ method = cc in
    subst (λ y. RunsPlain (IsMarked marks) classes 0 y.body) same (all.0 (subst (λ n. IsMarked marks n) at is))
plain_one marks classes k (x ∷ xs) all (suc m) method there is =
    let at : k + suc m ≡ suc k + m = omega arith in
    plain_one marks classes (suc k) xs all.1 m method there (subst (λ n. IsMarked marks n) at is)

-- marked methods are plain, so they may be called under a monitor
pub helpers : (marks : List Bool) (file : File) → ArePlainFrom marks file.classes 0 file.methods →
    AreHelpers (IsMarked marks) file
helpers marks file all m method is there = (
  0,
  plain_one marks file.classes 0 file.methods all m method there
      (subst (λ n. IsMarked marks n) (let at : m ≡ 0 + m = omega arith in at) is),
)

module _ (Helps : ℕ → Type 0) (classes : List Class) where
  -- the parts of a synchronized body
  pub record IsBody (slots : ℕ) (body : Statement) : Type 0 where
    pub slot : ℕ
    pub class : ℕ
    pub inner : Statement
    pub is : body ≡ synchronized_body slot class inner
    pub within : slot < slots
    pub plain : RunsPlain Helps classes slot inner

  pub body_parts : (slots : ℕ) (body : Statement) → IsMonitorBody Helps classes slots body → IsBody slots body
  body_parts slots body x =
      let block = x.monitor in
      let in_block = block.monitor in
      let run = in_block.monitor in
      let held = run.held in
      let last = held.freed in
      let freed = last.freed in
      record {
        slot = run.slot;
        class = held.class;
        inner = freed.inner;
        is = x.is ∙ ap Block (block.is ∙ ap (λ s. Then s Done) (in_block.is ∙ ap Block (run.is
            ∙ ap (λ r. Then (SetSlot run.slot (Slot 0)) r) (held.is
            ∙ ap (λ r. Then (hold_monitor run.slot held.class) r) (last.is ∙ ap (λ r. Then r Done) freed.is)))));
        within = run.within;
        plain = freed.plain;
      }

-- the method with such a body is synchronized
pub synchronized : (Helps : ℕ → Type 0) (file : File) (m : ℕ) (method : Method) →
    slice_get file.methods m ≡ Some method →
    IsMonitorBody Helps file.classes (length method.slots) method.body → IsSynchronized Helps file m
synchronized Helps file m method there x =
    let b = body_parts Helps file.classes (length method.slots) method.body x in
    record {
      method = method;
      slot = b.slot;
      class = b.class;
      inner = b.inner;
      there = there;
      is = b.is;
      within = b.within;
      plain = b.plain;
    }

-- the method with such a body is guarded
pub guarded : (calls own others : List Bool) (file : File) (c f m : ℕ) (method : Method) →
    slice_get file.methods m ≡ Some method →
    IsGuardedBody (IsMarked calls) (IsMarked own) (IsMarked others) file.classes c f method.body →
    IsGuarded calls own others file c f m
guarded calls own others file c f m method there x = record { method = method; there = there; body = x }

-- the class has the field
pub has : (file : File) (c f : ℕ) (class : Class) → slice_get file.classes c ≡ Some class → f < length class.fields →
    HasField file c f
has file c f class there less = record { class = class; there = there; field = less }
