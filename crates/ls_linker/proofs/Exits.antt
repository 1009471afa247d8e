-- Exits that become leaves of another statement, and `finally` by copies, keep each number in range.
use Rattle.std.proofs.Common.{◌≡◌, ℕ, zero, suc, ◌+◌, ◌≤◌, ◌<◌, List, [], ◌∷◌, ◌++◌, length, Option, Some, None, refl}
use Rattle.std.proofs.Common.{sym, ap, arith}
use Rattle.std.proofs.lemmas.List.{length-append}
use Rattle.std.proofs.lemmas.Option.{none-some}
use Rattle.ls_lowered.specs.LoweredTree.{Statement, Block, SetLocal, SetField, AddField, SetItem, Evaluate, If, While}
use Rattle.ls_lowered.specs.LoweredTree.{Return, Try, Guarded, Throw, Leavable, Leave, Statements, Done, Then, File}
use Rattle.ls_finally_exits.specs.Exits.{outward, count, Exit, LeaveOut, ReturnOut, leave_exit, exits, all_exits}
use Rattle.ls_finally_exits.specs.Exits.{or_leave, replaced, all_replaced, exit_of, ways, finally_of}
use Rattle.ls_emit.specs.Emittable.{statement_count, IsEmittableStatement, AreEmittableStatements}

-- an exit with a number below this, around the statement
abbrev Leads : ℕ → Exit → Type 0
Leads around (LeaveOut n) = n < around
Leads around ReturnOut = Unit {0}

abbrev AllLead : ℕ → List Exit → Type 0
AllLead around [] = Unit {0}
AllLead around (x ∷ xs) = Leads around x × AllLead around xs

lead_both : (around : ℕ) (xs ys : List Exit) → AllLead around xs → AllLead around ys → AllLead around (xs ++ ys)
lead_both around [] ys h k = k
lead_both around (x ∷ xs) ys h k = (h.0, lead_both around xs ys h.1 k)

-- a leave beyond the inner numbers has an outer one
leave_leads : (inner around all n : ℕ) → all ≡ inner + around → n < all → AllLead around (leave_exit (outward inner n))
leave_leads zero around all n e l = let there : n < around = omega (arith, e, l) in (there, tt)
leave_leads (suc inner) around all zero e l = tt
leave_leads (suc inner) around all (suc n) e l = leave_leads inner around (inner + around) n refl (omega (arith, e, l))

-- and one that isn't beyond them is one of them
inside : (inner n : ℕ) → outward inner n ≡ None → n < inner
inside zero n e = absurd (none-some n (sym e))
inside (suc inner) zero e = omega arith
inside (suc inner) (suc n) e = let there = inside inner n e in omega (arith, there)

same_count : (ss : Statements) → statement_count ss ≡ count ss
same_count Done = refl
same_count (Then s ss) = ap suc (same_count ss)

replaced_count : (ss : Statements) (r inner j : ℕ) → statement_count (all_replaced r inner j ss) ≡ count ss
replaced_count Done r inner j = refl
replaced_count (Then s ss) r inner j = ap suc (replaced_count ss r inner (j + length (exits inner s)))

ways_count : (r : ℕ) (f : Statement) (xs : List Exit) → statement_count (ways r f xs) ≡ length xs
ways_count r f [] = refl
ways_count r f (x ∷ xs) = ap suc (ways_count r f xs)

module _ (ms : File) (k : ℕ) where
  -- the exits of a statement within inner numbers have outer ones
  mutual
    exits_lead : (inner around all : ℕ) (s : Statement) →
        all ≡ inner + around →
        IsEmittableStatement ms k all s →
        AllLead around (exits inner s)
    exits_lead inner around all (Block ss) e h = all_exits_lead inner around all ss e h
    exits_lead inner around all (SetLocal n v) e h = tt
    exits_lead inner around all (SetField o f v) e h = tt
    exits_lead inner around all (AddField o f v) e h = tt
    exits_lead inner around all (SetItem a i v) e h = tt
    exits_lead inner around all (Evaluate v) e h = tt
    exits_lead inner around all (If c a b) e h = lead_both around (exits inner a) (exits inner b)
        (exits_lead inner around all a e h.1) (exits_lead inner around all b e h.2)
    exits_lead inner around all (While c s) e h = exits_lead inner around all s e h.1
    exits_lead inner around all (Return v) e h = (tt, tt)
    exits_lead inner around all (Try b f) e h = absurd h
    exits_lead inner around all (Guarded b n x) e h = lead_both around (exits inner b) (exits inner x)
        (exits_lead inner around all b e h.1) (exits_lead inner around all x e h.2)
    exits_lead inner around all (Throw n) e h = tt
    exits_lead inner around all (Leavable b xs) e h =
        let within : ℕ = suc (count xs) + inner in
        lead_both around (exits within b) (all_exits inner xs)
        (exits_lead within around (suc (statement_count xs) + all) b (omega (arith, e, same_count xs)) h.0)
        (all_exits_lead inner around all xs e h.1)
    exits_lead inner around all (Leave n) e h = leave_leads inner around all n e h

    all_exits_lead : (inner around all : ℕ) (ss : Statements) →
        all ≡ inner + around →
        AreEmittableStatements ms k all ss →
        AllLead around (all_exits inner ss)
    all_exits_lead inner around all Done e h = tt
    all_exits_lead inner around all (Then s ss) e h = lead_both around (exits inner s) (all_exits inner ss)
        (exits_lead inner around all s e h.0) (all_exits_lead inner around all ss e h.1)

  leave_in : (o : Option ℕ) (inner j n after : ℕ) →
      outward inner n ≡ o →
      inner + j + length (leave_exit o) ≤ after →
      IsEmittableStatement ms k after (or_leave o n (inner + j))
  leave_in None inner j n after e room = let there = inside inner n e in omega (arith, there, room)
  leave_in (Some m) inner j n after e room = omega (arith, room)

  -- a statement with its exits as leaves of its own; the numbers that can be left before and afterwards are given
  mutual
    replaced_in : (r inner j before after : ℕ) (s : Statement) →
        r < k →
        inner + j + length (exits inner s) ≤ after →
        IsEmittableStatement ms k before s →
        IsEmittableStatement ms k after (replaced r inner j s)
    replaced_in r inner j before after (Block ss) rk room h = all_replaced_in r inner j before after ss rk room h
    replaced_in r inner j before after (SetLocal n v) rk room h = h
    replaced_in r inner j before after (SetField o f v) rk room h = h
    replaced_in r inner j before after (AddField o f v) rk room h = h
    replaced_in r inner j before after (SetItem a i v) rk room h = h
    replaced_in r inner j before after (Evaluate v) rk room h = h
    replaced_in r inner j before after (If c a b) rk room h =
        let many = length-append (exits inner a) (exits inner b) in (
          h.0,
          replaced_in r inner j before after a rk (omega (arith, many, room)) h.1,
          replaced_in r inner (j + length (exits inner a)) before after b rk (omega (arith, many, room)) h.2,
        )
    replaced_in r inner j before after (While c s) rk room h = (h.0, replaced_in r inner j before after s rk room h.1)
    replaced_in r inner j before after (Return v) rk room h = let leave : inner + j < after = omega (arith, room) in
        ((rk, h), (leave, tt))
    replaced_in r inner j before after (Try b f) rk room h = absurd h
    replaced_in r inner j before after (Guarded b n x) rk room h =
        let many = length-append (exits inner b) (exits inner x) in (
          h.0,
          replaced_in r inner j before after b rk (omega (arith, many, room)) h.1,
          replaced_in r inner (j + length (exits inner b)) before after x rk (omega (arith, many, room)) h.2,
        )
    replaced_in r inner j before after (Throw n) rk room h = h
    replaced_in r inner j before after (Leavable b xs) rk room h =
        let within : ℕ = suc (count xs) + inner in
        let next : ℕ = j + length (exits within b) in
        let many = length-append (exits within b) (all_exits inner xs) in
        let same = replaced_count xs r inner next in (
          replaced_in r within j (suc (statement_count xs) + before)
              (suc (statement_count (all_replaced r inner next xs)) + after) b rk (omega (arith, many, same, room)) h.0,
          all_replaced_in r inner next before after xs rk (omega (arith, many, room)) h.1,
        )
    replaced_in r inner j before after (Leave n) rk room h = leave_in (outward inner n) inner j n after refl room

    all_replaced_in : (r inner j before after : ℕ) (ss : Statements) →
        r < k →
        inner + j + length (all_exits inner ss) ≤ after →
        AreEmittableStatements ms k before ss →
        AreEmittableStatements ms k after (all_replaced r inner j ss)
    all_replaced_in r inner j before after Done rk room h = tt
    all_replaced_in r inner j before after (Then s ss) rk room h =
        let many = length-append (exits inner s) (all_exits inner ss) in (
          replaced_in r inner j before after s rk (omega (arith, many, room)) h.0,
          all_replaced_in r inner (j + length (exits inner s)) before after ss rk (omega (arith, many, room)) h.1,
        )

  exit_in : (r around : ℕ) (x : Exit) → r < k → Leads around x → IsEmittableStatement ms k around (exit_of r x)
  exit_in r around (LeaveOut n) rk h = h
  exit_in r around ReturnOut rk h = rk

  ways_in : (r around : ℕ) (f : Statement) (xs : List Exit) →
      r < k →
      IsEmittableStatement ms k around f →
      AllLead around xs →
      AreEmittableStatements ms k around (ways r f xs)
  ways_in r around f [] rk h lead = tt
  ways_in r around f (x ∷ xs) rk h lead = ((h, (exit_in r around x rk lead.0, tt)), ways_in r around f xs rk h lead.1)

  -- a `try` by copies of its finally block has code
  pub finally_in : (q around : ℕ) (b f : Statement) →
      q + 1 < k →
      IsEmittableStatement ms k around b →
      IsEmittableStatement ms k around f →
      IsEmittableStatement ms k around (finally_of q b f)
  finally_in q around b f qk bs fs =
      let low : q < k = omega (arith, qk) in
      let many = ways_count (q + 1) f (exits 0 b) in
      let numbers : ℕ = suc (suc (suc (statement_count (ways (q + 1) f (exits 0 b))))) + around in
      let ends : 0 < numbers = omega arith in
      let throws : 1 < numbers = omega arith in (
        ((low, replaced_in (q + 1) 0 2 around numbers b qk (omega (arith, many)) bs, throws), (ends, tt)),
        (
          fs,
          (
            (fs, (low, tt)),
            ways_in (q + 1) around f (exits 0 b) qk fs
                (exits_lead 0 around around b (omega arith) bs),
          ),
        ),
      )
