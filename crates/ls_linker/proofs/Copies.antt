-- Nodes of trees without `try`, by the copies of finally blocks.
use Rattle.ls_lowered.specs.Limits.{most_locals}
use Rattle.std.proofs.Common.{◌≡◌, ℕ, zero, suc, ◌+◌, ◌*◌, ◌≤◌, List, [], ◌∷◌, length, Option, Some, None, arith}
use Rattle.std.proofs.Common.{length-append}
use Rattle.ls_checked.specs.CheckedTree as checked
use Rattle.ls_lowered.specs.LoweredTree.{Statement, Block, SetLocal, SetField, AddField, SetItem, Evaluate, If, While}
use Rattle.ls_lowered.specs.LoweredTree.{Return, Try, Guarded, Throw, Leavable, Leave, Statements, Done, Then}
use Rattle.ls_finally_exits.specs.Exits.{Exit, LeaveOut, ReturnOut, outward, count, exits, all_exits, or_leave}
use Rattle.ls_finally_exits.specs.Exits.{replaced, all_replaced, exit_of, ways, finally_of}
use Rattle.ls_finally.specs.Flat.{tries, flat, all_flat}
use Rattle.ls_finally.specs.Counts.{copies, all_copies}
use Rattle.ls_refs.specs.Lowered.{lowered_method}
use Rattle.ls_linker.specs.Counts.{statement_nodes, statements_nodes, written_nodes}
use Rattle.std.specs.Prelude.{map, All}
use Rattle.ls_finally.specs.Flat.{flat_method}
use Rattle.ls_finally.specs.Counts.{locals_of}
use Rattle.ls_linker.specs.Counts.{file_count}
use Rattle.ls_linker.specs.Floor.{LowersFew, CountsWritten, written_count}
use Rattle.ls_linker.proofs.Lowering.{statement_few}

or_same : (o : Option ℕ) (n j : ℕ) → statement_nodes (or_leave o n j) ≤ 1
or_same None n j = omega arith
or_same (Some m) n j = omega arith

mutual
  replaced_few : (s : Statement) (r l j : ℕ) →
      statement_nodes (replaced r l j s) ≤ statement_nodes s + 2 * length (exits l s)
  replaced_few (Block ss) r l j = omega (arith, all_replaced_few ss r l j)
  replaced_few (SetLocal n e) r l j = omega arith
  replaced_few (SetField e f a) r l j = omega arith
  replaced_few (AddField e f a) r l j = omega arith
  replaced_few (SetItem a i e) r l j = omega arith
  replaced_few (Evaluate e) r l j = omega arith
  replaced_few (If e a b) r l j = omega (
    arith,
    replaced_few a r l j,
    replaced_few b r l (j + length (exits l a)),
    length-append (exits l a) (exits l b),
  )
  replaced_few (While e s) r l j = omega (arith, replaced_few s r l j)
  replaced_few (Return e) r l j = omega arith
  replaced_few (Try b f) r l j = omega arith
  replaced_few (Guarded b n h) r l j = omega (
    arith,
    replaced_few b r l j,
    replaced_few h r l (j + length (exits l b)),
    length-append (exits l b) (exits l h),
  )
  replaced_few (Throw n) r l j = omega arith
  replaced_few (Leavable b xs) r l j =
      let inner : ℕ = suc (count xs) + l in
      omega (
        arith,
        replaced_few b r inner j,
        all_replaced_few xs r l (j + length (exits inner b)),
        length-append (exits inner b) (all_exits l xs),
      )
  replaced_few (Leave n) r l j = omega (arith, or_same (outward l n) n (l + j))

  all_replaced_few : (ss : Statements) (r l j : ℕ) →
      statements_nodes (all_replaced r l j ss) ≤ statements_nodes ss + 2 * length (all_exits l ss)
  all_replaced_few Done r l j = omega arith
  all_replaced_few (Then s ss) r l j = omega (
    arith,
    replaced_few s r l j,
    all_replaced_few ss r l (j + length (exits l s)),
    length-append (exits l s) (all_exits l ss),
  )

exit_few : (r : ℕ) (x : Exit) → statement_nodes (exit_of r x) ≤ 2
exit_few r (LeaveOut n) = omega arith
exit_few r ReturnOut = omega arith

ways_few : (xs : List Exit) (r : ℕ) (f : Statement) →
    statements_nodes (ways r f xs) ≤ length xs * (statement_nodes f + 4)
ways_few [] r f = omega arith
ways_few (x ∷ xs) r f = omega (arith, ways_few xs r f, exit_few r x)

distribute : (a b c : ℕ) → (a + b) * c ≡ a * c + b * c
distribute zero b c = omega arith
distribute (suc a) b c = omega (arith, distribute a b c)

associate : (a b c : ℕ) → (a * b) * c ≡ a * (b * c)
associate zero b c = omega arith
associate (suc a) b c = omega (arith, associate a b c, distribute b (a * b) c)

more_times : (a b c : ℕ) → b ≤ c → a * b ≤ a * c
more_times zero b c le = omega arith
more_times (suc a) b c le = omega (arith, le, more_times a b c le)

six_more : (n f : ℕ) → n * (f + 6) ≡ n * (f + 4) + 2 * n
six_more zero f = omega arith
six_more (suc n) f = omega (arith, six_more n f)

finally_few : (k : ℕ) (b f : Statement) →
    statement_nodes (finally_of k b f) ≤ statement_nodes b + (2 + length (exits 0 b)) * (statement_nodes f + 6)
finally_few k b f =
    let n : ℕ = length (exits 0 b) in
    let w = ways_few (exits 0 b) (k + 1) f in
    let r = replaced_few b (k + 1) 0 2 in
    let d = distribute 2 n (statement_nodes f + 6) in
    let s = six_more n (statement_nodes f) in
    omega (arith, w, r, d, s)

-- a block with its copies, by a bound of the nodes of any block
module _ (most : ℕ) where
  abbrev each : ℕ
  each = most + 6

  tried : (b b' f f' cb cf n : ℕ) →
      b' ≤ b + cb * each →
      f' ≤ f + cf * each →
      f ≤ most →
      b' + (2 + n) * (f' + 6) ≤ b + (cb + (2 + n) * (1 + cf)) * each
  tried b b' f f' cb cf n hb hf small =
      let one : f' + 6 ≤ (1 + cf) * each = omega (arith, hf, small, distribute 1 cf each) in
      let two = more_times (2 + n) (f' + 6) ((1 + cf) * each) one in
      let three = associate (2 + n) (1 + cf) each in
      let four = distribute cb ((2 + n) * (1 + cf)) each in
      omega (arith, hb, two, three, four)

  mutual
    flat_few : (s : Statement) (k : ℕ) →
        statement_nodes s ≤ most →
        statement_nodes (flat k s) ≤ statement_nodes s + copies k s * each
    flat_few (Block ss) k le = omega (arith, all_flat_few ss k (omega (arith, le)))
    flat_few (SetLocal n e) k le = omega arith
    flat_few (SetField e f a) k le = omega arith
    flat_few (AddField e f a) k le = omega arith
    flat_few (SetItem a i e) k le = omega arith
    flat_few (Evaluate e) k le = omega arith
    flat_few (If e a b) k le =
        omega (
          arith,
          flat_few a k (omega (arith, le)),
          flat_few b (k + 2 * tries a) (omega (arith, le)),
          distribute (copies k a) (copies (k + 2 * tries a) b) each,
        )
    flat_few (While e s) k le = omega (arith, flat_few s k (omega (arith, le)))
    flat_few (Return e) k le = omega arith
    flat_few (Try b f) k le =
        let lb : statement_nodes b ≤ most = omega (arith, le) in
        let lf : statement_nodes f ≤ most = omega (arith, le) in
        let h = finally_few (k + 2 * tries b + 2 * tries f) (flat k b) (flat (k + 2 * tries b) f) in
        let t = tried (statement_nodes b) (statement_nodes (flat k b)) (statement_nodes f)
        (statement_nodes (flat (k + 2 * tries b) f)) (copies k b) (copies (k + 2 * tries b) f)
        (length (exits 0 (flat k b)))
        (flat_few b k lb) (flat_few f (k + 2 * tries b) lf) lf in
        omega (arith, h, t)
    flat_few (Guarded b n h) k le =
        omega (
          arith,
          flat_few b k (omega (arith, le)),
          flat_few h (k + 2 * tries b) (omega (arith, le)),
          distribute (copies k b) (copies (k + 2 * tries b) h) each,
        )
    flat_few (Throw n) k le = omega arith
    flat_few (Leavable b xs) k le =
        omega (
          arith,
          flat_few b k (omega (arith, le)),
          all_flat_few xs (k + 2 * tries b) (omega (arith, le)),
          distribute (count xs + copies k b) (all_copies (k + 2 * tries b) xs) each,
          distribute (count xs) (copies k b) each,
        )
    flat_few (Leave n) k le = omega arith

    all_flat_few : (ss : Statements) (k : ℕ) →
        statements_nodes ss ≤ most →
        statements_nodes (all_flat k ss) ≤ statements_nodes ss + all_copies k ss * each
    all_flat_few Done k le = omega arith
    all_flat_few (Then s ss) k le =
        omega (
          arith,
          flat_few s k (omega (arith, le)),
          all_flat_few ss (k + 2 * tries s) (omega (arith, le)),
          distribute (copies k s) (all_copies (k + 2 * tries s) ss) each,
        )

-- the law: how many nodes the lowering makes
pub lowers_few : LowersFew
lowers_few classes m =
    let words = lowered_method classes m in
    let few : statement_nodes words.body ≤ 16 * written_nodes m.body = statement_few classes m.body (length m.slots) in
    let h = flat_few (16 * written_nodes m.body) words.body (words.arguments + words.locals) few in
    omega (arith, few, h)

written_few : (classes : List checked.Class) (ms : List checked.Method) →
    All (λ g. locals_of g ≤ most_locals) (map (lowered_method classes) ms) →
    file_count (map flat_method (map (lowered_method classes) ms)) ≤ written_count classes ms
written_few classes [] few = omega arith
written_few classes (m ∷ ms) few =
    let words = lowered_method classes m in
    let names : locals_of words ≤ most_locals = few 0 words (omega arith) in
    omega (
      arith,
      names,
      lowers_few classes m,
      written_few classes ms
          (λ k d below. few (suc k) d (omega (arith, below))),
    )

-- the law: the count of the lowered tree, by what is written
pub counts_written : CountsWritten
counts_written file few = written_few file.classes file.methods few
