-- The lowered methods have as many locals as the checked ones.
use Rattle.ls_lowered.specs.Limits.{most_locals}
use Rattle.std.proofs.Common.{◌≡◌, ℕ, ◌+◌, ◌≤◌, ◌<◌, List, length, refl, ap₂, ◌∙◌, arith}
use Rattle.std.specs.Prelude.{slice_index_or}
use Rattle.std.proofs.lemmas.List.Elements.{All-map}
use Rattle.ls_checked.specs.CheckedTree.{Class, Method, File, Statement, Block, SetSlot, SetField, AddField, SetItem}
use Rattle.ls_checked.specs.CheckedTree.{Evaluate, If, While, Break, Continue, ReturnNothing, ReturnValue, Try}
use Rattle.ls_checked.specs.CheckedTree.{Statements, Done, Then}
use Rattle.ls_refs.specs.Lowered.{lowered_statement, lowered_block, lowered_method, lowered_file}
use Rattle.ls_refs.specs.Temporaries as refs
use Rattle.ls_refs.specs.Refused.{AllFit, AllSlotted}
use Rattle.ls_finally.specs.Flat.{tries, all_tries}
use Rattle.ls_finally.specs.Counts.{FewLocals, locals_of}
use Rattle.ls_linker.proofs.Ahead.{ahead_tries}

-- a lowered statement has as many `try`s as its statement
mutual
  tries_same : (classes : List Class) (free : ℕ) (s : Statement) →
      tries (lowered_statement classes free s) ≡ refs.tries s
  tries_same classes free (Block ss) = all_tries_same classes free ss
  tries_same classes free (SetSlot n e) = refl
  tries_same classes free (SetField e f v) = refl
  tries_same classes free (AddField e f v) = refl
  tries_same classes free (SetItem a i v) = refl
  tries_same classes free (Evaluate e) = refl
  tries_same classes free (If e a b) = ap₂ (λ x y. x + y) (tries_same classes _ a) (tries_same classes _ b)
  tries_same classes free (While e s) =
      let x = tries_same classes (free + refs.temporaries e) s in
      omega (arith, x)
  tries_same classes free (Break n) = refl
  tries_same classes free (Continue n) = refl
  tries_same classes free ReturnNothing = refl
  tries_same classes free (ReturnValue e) = refl
  tries_same classes free (Try b f) =
      let x = tries_same classes free b in
      let y = tries_same classes (free + refs.statement_temporaries b) f in
      omega (arith, x, y)

  all_tries_same : (classes : List Class) (free : ℕ) (ss : Statements) →
      all_tries (lowered_block classes free ss) ≡ refs.block_tries ss
  all_tries_same classes free Done = refl
  all_tries_same classes free (Then s ss) =
      ahead_tries (lowered_statement classes free s) (lowered_block classes (free + refs.statement_temporaries s) ss)
      ∙ ap₂ (λ x y. x + y) (tries_same classes _ s) (all_tries_same classes _ ss)

-- a method with few locals has a lowered method with few locals
pub few_here : (classes : List Class) (m : Method) →
    m.parameters < length m.slots →
    refs.locals_of m ≤ most_locals →
    locals_of (lowered_method classes m) ≤ most_locals
few_here classes m slots few =
    let e = tries_same classes (length m.slots) m.body in
    omega (arith, e, slots, few)

-- if the methods of a file have few locals, so have its lowered methods
pub few_locals : (file : File) → AllSlotted file.methods → AllFit file.methods → FewLocals (lowered_file file)
few_locals file slots fit =
    All-map (λ m. locals_of m ≤ most_locals) (lowered_method file.classes) file.methods
    (λ k m below. few_here file.classes (slice_index_or file.methods k m) (slots k m below) (fit k m below))
