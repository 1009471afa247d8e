-- Loops and jumps.
use Rattle.std.proofs.Common.{◌≡◌, ℕ, suc, ◌+◌, ◌<◌, arith, Bool, true, false, List, [], ◌∷◌, length, Option, Some}
use Rattle.std.proofs.Common.{None}
use Rattle.std.specs.Prelude.{is_some, option_map, if◌then◌else◌}
use Rattle.ls_lexer.specs.declared.token.Span.{Span}
use Rattle.ls_checked.specs.CheckedTree as checked
use Rattle.ls_types_elaboration.specs.declared.loops.LoopPart.{LoopPart}
use Rattle.ls_types_elaboration.specs.declared.loops.LoopPart.TheVariants as parts
use Rattle.ls_types_elaboration.specs.declared.rule.Rule.{Rule}
use Rattle.ls_types_elaboration.specs.declared.rule.Rule.TheVariants as rules
use Rattle.ls_types_elaboration.specs.Trees.{Text, Name}
use Rattle.ls_types_elaboration.specs.Elaborated.{Elaborated}
use Rattle.ls_types_elaboration.specs.TypedStatements.{Loop, Loops, is_target, loop_named, found_loop, jump, continued}
use Rattle.ls_types_elaboration.specs.TypedStatements.{fresh_label, sequence}
use Rattle.ls_types_judgement.specs.Leaving.{JumpsInLoops, JumpInLoops}
use Rattle.ls_types_laws.proofs.Results.{Gives, unless}
use Rattle.ls_types_laws.proofs.Lists.{Each}

abbrev Low : ℕ → Option (ℕ × LoopPart) → Type 0
Low k None = Unit {0}
Low k (Some w) = w.0 < k

low_or : (b : Bool) (p : LoopPart) (o : Option (ℕ × LoopPart)) (k : ℕ) →
    Low k o →
    Low (suc k) (if b then Some (0, p) else option_map (λ w. (w.0 + 1, w.1)) o)
low_or true p o k h = omega arith
low_or false p None k h = tt
low_or false p (Some w) k h = omega (arith, h)

loop_low : (breaking : Bool) (ls : Loops) (name : Option Text) → Low (length ls) (loop_named breaking ls name)
loop_low breaking [] name = tt
loop_low breaking (l ∷ ls) name = low_or (is_target breaking name l) l.part (loop_named breaking ls name) (length ls)
    (loop_low breaking ls name)

found_low : (k : ℕ) (o : Option (ℕ × LoopPart)) (rule : Rule) (span : Span) →
    Low k o →
    Gives (λ w. w.0 < k) (found_loop o rule span)
found_low k None rule span h = tt
found_low k (Some w) rule span h = h

-- a jump leads to one of the loops
pub jump_low : (breaking : Bool) (ls : Loops) (label : Option Name) (span : Span) →
    Gives (λ w. w.0 < length ls) (jump breaking ls label span)
jump_low breaking [] label span = tt
jump_low breaking (l ∷ ls) None span = found_low (length (l ∷ ls)) (loop_named breaking (l ∷ ls) None) rules.NoLoop span
    (loop_low breaking (l ∷ ls) None)
jump_low breaking (l ∷ ls) (Some n) span = found_low (length (l ∷ ls)) (loop_named breaking (l ∷ ls) (Some n.text))
    rules.UnknownLabel n.span (loop_low breaking (l ∷ ls) (Some n.text))

-- the checked form of a `continue` leads to one of the loops
pub continued_low : (p : LoopPart) (n k : ℕ) → n < k → JumpsInLoops k (continued p n)
continued_low parts.Turn n k h = h
continued_low parts.While n k h = h
continued_low parts.For n k h = h

-- the test of a label changes no answer
pub fresh_gives : {A : Type 0} (Q : A → Type 0) (ls : Loops) (label : Option Name) (x : Elaborated A) →
    Gives Q x →
    Gives Q (fresh_label ls label x)
fresh_gives Q ls None x h = h
fresh_gives Q ls (Some n) x h = unless Q (is_some (loop_named true ls (Some n.text))) rules.TwiceDeclared n.span x
    (λ e. h)

-- one loop more
pub one_more : (l : Loop) (ls : Loops) → length (l ∷ ls) ≡ length ls + 1
one_more l ls = omega arith

-- statements in order jump to these loops, if each does
pub in_sequence : (n : ℕ) (ss : List checked.Statement) → Each (JumpsInLoops n) ss → JumpInLoops n (sequence ss)
in_sequence n [] h = tt
in_sequence n (s ∷ ss) h = (h.0, in_sequence n ss h.1)
