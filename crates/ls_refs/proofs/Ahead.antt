-- Statements in front of others, where those of a block stand in its place.
use Rattle.std.proofs.Common.{◌≡◌, ℕ, refl, sym, ap, subst, ◌∙◌, List, [], ◌∷◌, ◌++◌, Option, Some, None}
use Rattle.ls_lowered.specs.declared.tree.Statement.{Statement as Tree}
use Rattle.std.specs.Global.{Vec}
use Rattle.ls_lowered.specs.declared.tree.Statement as code
use Rattle.ls_lowered.specs.declared.tree.Statement.TheVariants as variants
use Rattle.ls_lowered.specs.declared.tree.Statement.TheOpen as shapes
use Rattle.ls_lowered.specs.LoweredTree.{Statement, Block, SetLocal, SetField, AddField, SetItem, Evaluate, If, While}
use Rattle.ls_lowered.specs.LoweredTree.{Return, Try, Guarded, Throw, Leavable, Leave, Statements, Done, Then}
use Rattle.ls_lowered.specs.Plain.{plain_statement, in_front, statements_of}
use Rattle.ls_lowered.specs.Course as low
use Rattle.ls_lowered.specs.Statements as does
use Rattle.ls_refs.specs.Lowered.{inner_of, joined, put_ahead, ahead}

none_is_some : {ss : Statements} {X : Type 0} → None ≡ Some ss → X
none_is_some e = absurd (let f : ⊥ = cc e in f)

-- what has inner statements is a block
pub inner_is : (s : Statement) (ss : Statements) → inner_of s ≡ Some ss → s ≡ Block ss
inner_is (Block xs) ss e = cc e
inner_is (SetLocal n x) ss e = none_is_some e
inner_is (SetField x f a) ss e = none_is_some e
inner_is (AddField x f a) ss e = none_is_some e
inner_is (SetItem a i x) ss e = none_is_some e
inner_is (Evaluate x) ss e = none_is_some e
inner_is (If x a b) ss e = none_is_some e
inner_is (While x s) ss e = none_is_some e
inner_is (Return x) ss e = none_is_some e
inner_is (Try b f) ss e = none_is_some e
inner_is (Guarded b n h) ss e = none_is_some e
inner_is (Throw n) ss e = none_is_some e
inner_is (Leavable b xs) ss e = none_is_some e
inner_is (Leave n) ss e = none_is_some e

-- a property of a statement in front of others, by that of a block's statements in front of them
pub by_inner : (P : Statement → Statements → Type 0) (s : Statement) (rest : Statements) →
    P s (Then s rest) →
    ((ss : Statements) → P (Block ss) (joined ss rest)) →
    P s (ahead s rest)
by_inner P s rest alone many = by_case (inner_of s) refl
  where
    by_case : (o : Option Statements) → inner_of s ≡ o → P s (put_ahead o s rest)
    by_case None e = alone
    by_case (Some ss) e = subst (λ z. P z (joined ss rest)) (sym (inner_is s ss e)) (many ss)

-- statements one by one, and more
pub front_append : (xs ys : List Tree) (rest : Statements) → in_front (xs ++ ys) rest ≡ in_front xs (in_front ys rest)
front_append [] ys rest = refl
front_append (x ∷ xs) ys rest = ap (Then (plain_statement x)) (front_append xs ys rest)

pub joined_front : (ys : List Tree) (rest : Statements) → joined (statements_of ys) rest ≡ in_front ys rest
joined_front [] rest = refl
joined_front (y ∷ ys) rest = ap (Then (plain_statement y)) (joined_front ys rest)

-- what isn't a block
pub alone : (s : Tree) → ((v : Vec Tree) → s ≡ code.Block v → ⊥) → inner_of (plain_statement s) ≡ None
alone s h = by_shape (code.out-Statement s) (code.roll-out-Statement s)
  where
    by_shape : (o : code.Statement-F Tree) → code.roll-Statement o ≡ s → inner_of (plain_statement s) ≡ None
    by_shape (shapes.Block v) e = absurd (h v (sym e ∙ variants.rolls-Block v))
    by_shape (shapes.SetLocal n x) e = ap (λ (z : Tree). inner_of (plain_statement z))
        (sym e ∙ variants.rolls-SetLocal n x)
    by_shape (shapes.SetField x f a) e = ap (λ (z : Tree). inner_of (plain_statement z))
        (sym e ∙ variants.rolls-SetField x f a)
    by_shape (shapes.AddField x f a) e = ap (λ (z : Tree). inner_of (plain_statement z))
        (sym e ∙ variants.rolls-AddField x f a)
    by_shape (shapes.SetItem a i x) e = ap (λ (z : Tree). inner_of (plain_statement z))
        (sym e ∙ variants.rolls-SetItem a i x)
    by_shape (shapes.Evaluate x) e = ap (λ (z : Tree). inner_of (plain_statement z)) (sym e ∙ variants.rolls-Evaluate x)
    by_shape (shapes.If x a b) e = ap (λ (z : Tree). inner_of (plain_statement z)) (sym e ∙ variants.rolls-If x a b)
    by_shape (shapes.While x b) e = ap (λ (z : Tree). inner_of (plain_statement z)) (sym e ∙ variants.rolls-While x b)
    by_shape (shapes.Return x) e = ap (λ (z : Tree). inner_of (plain_statement z)) (sym e ∙ variants.rolls-Return x)
    by_shape (shapes.Try b f) e = ap (λ (z : Tree). inner_of (plain_statement z)) (sym e ∙ variants.rolls-Try b f)
    by_shape (shapes.Guarded b n f) e = ap (λ (z : Tree). inner_of (plain_statement z))
        (sym e ∙ variants.rolls-Guarded b n f)
    by_shape (shapes.Throw n) e = ap (λ (z : Tree). inner_of (plain_statement z)) (sym e ∙ variants.rolls-Throw n)
    by_shape (shapes.Leavable b v) e = ap (λ (z : Tree). inner_of (plain_statement z))
        (sym e ∙ variants.rolls-Leavable b v)
    by_shape (shapes.Leave n) e = ap (λ (z : Tree). inner_of (plain_statement z)) (sym e ∙ variants.rolls-Leave n)

-- what is put is a block, or it stands alone
pub block_put : (old new inner : List Tree) (s : Tree) →
    plain_statement s ≡ Block (statements_of inner) →
    new ≡ old ++ inner →
    (rest : Statements) →
    in_front new rest ≡ in_front old (ahead (plain_statement s) rest)
block_put old new inner s is pushed rest =
    ap (λ (xs : List Tree). in_front xs rest) pushed ∙ front_append old inner rest ∙
    ap (in_front old) (sym (joined_front inner rest))
    ∙ ap (λ (t : Statement). in_front old (ahead t rest)) (sym is)

-- a statement without an inner list is put after those that are there
pub one_put : (old new : List Tree) (s : Tree) →
    inner_of (plain_statement s) ≡ None →
    new ≡ old ++ s ∷ [] →
    (rest : Statements) →
    in_front new rest ≡ in_front old (ahead (plain_statement s) rest)
one_put old new s alone pushed rest =
    ap (λ (xs : List Tree). in_front xs rest) pushed ∙ front_append old (s ∷ []) rest
    ∙ ap (λ (o : Option Statements). in_front old (put_ahead o (plain_statement s) rest)) (sym alone)

-- a statement in front of others runs as both
-- what runs alike behind a normal end runs alike behind each
after : (calls : low.Calls) (ss rest : Statements) →
    ((ls : List ℕ) (q : low.Answers) → does.execute_all calls (joined ss rest) ls q ≡ low.finish
    (does.execute_all calls ss ls q) (does.on_normal (does.execute_all calls rest))) →
    (x : low.Course does.Completion) → low.finish x (does.on_normal (does.execute_all calls (joined ss rest))) ≡
    low.finish (low.finish x (does.on_normal (does.execute_all calls ss)))
    (does.on_normal (does.execute_all calls rest))
after calls ss rest same (low.Asks a) = refl
after calls ss rest same (low.Ends does.Normal ls q) = same ls q
after calls ss rest same (low.Ends (does.Left n) ls q) = refl
after calls ss rest same (low.Ends (does.Returned w) ls q) = refl
after calls ss rest same (low.Ends (does.Threw k) ls q) = refl
after calls ss rest same low.Stuck = refl

joined_runs : (calls : low.Calls) (ss rest : Statements) (ls : List ℕ) (q : low.Answers) →
    does.execute_all calls (joined ss rest) ls q ≡ low.finish (does.execute_all calls ss ls q)
    (does.on_normal (does.execute_all calls rest))
joined_runs calls Done rest ls q = refl
joined_runs calls (Then s ss) rest ls q = after calls ss rest (λ ls q. joined_runs calls ss rest ls q)
    (does.execute calls s ls q)

-- what stands ahead of a list runs first, and then the list
pub ahead_runs : (calls : low.Calls) (s : Statement) (rest : Statements) (ls : List ℕ) (q : low.Answers) →
    does.execute_all calls (ahead s rest) ls q ≡ low.finish (does.execute calls s ls q)
    (does.on_normal (does.execute_all calls rest))
ahead_runs calls s rest ls q =
    by_inner (λ s all. does.execute_all calls all ls q ≡ low.finish (does.execute calls s ls q)
    (does.on_normal (does.execute_all calls rest))) s rest refl (λ ss. joined_runs calls ss rest ls q)
