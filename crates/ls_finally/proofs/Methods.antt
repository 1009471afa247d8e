-- Methods without `try` ask for the same, at every depth.
use Rattle.std.proofs.Common.{◌≡◌, ℕ, zero, suc, ◌+◌, ◌*◌, List, [], ◌∷◌, ◌++◌, length, length-append, replicate}
use Rattle.std.proofs.Common.{Option, Some, None, refl, sym, ap, ◌∙◌, arith}
use Rattle.std.proofs.Math.Path.{fun_ext}
use Rattle.std.proofs.lemmas.List.{length-replicate}
use Rattle.std.specs.Prelude.{slice_index, slice_get}
use Rattle.ls_events.specs.declared.action.Action.TheVariants.{Enter}
use Rattle.ls_lowered.specs.LoweredTree.{Method, File}
use Rattle.ls_lowered.specs.Course.{Answers, Course, Asks, Ends, Stuck, Calls, finish}
use Rattle.ls_lowered.specs.Statements.{Completion, execute}
use Rattle.ls_lowered.specs.Methods.{given, told, run_body, enter, invoke}
use Rattle.ls_finally.specs.Flat.{tries, flat, flat_method, flat_file}
use Rattle.ls_finally.specs.Placed.{TakesIn, Takes, IsPlacedStatement, AllPlaced}
use Rattle.ls_finally.specs.Laws.{KeepsCourses}
use Rattle.ls_finally.proofs.Flats.{flat_ok}
use Rattle.ls_finally.proofs.Calls.{runs}

zero_at : (n i : ℕ) → slice_index (replicate n 0) i ≡ 0
zero_at zero i = refl
zero_at (suc n) zero = refl
zero_at (suc n) (suc i) = zero_at n i

padded : (ws : List ℕ) (n i : ℕ) → slice_index (ws ++ replicate n 0) i ≡ slice_index ws i
padded [] n i = zero_at n i
padded (w ∷ ws) n zero = refl
padded (w ∷ ws) n (suc i) = padded ws n i

-- the locals at the end don't matter
forgets : (x : Course Completion) →
    told (finish x (λ c ls q. Ends c [] q)) (λ c ls q. given c q) ≡ told x (λ c ls q. given c q)
forgets (Asks a) = refl
forgets (Ends c ls q) = refl
forgets Stuck = refl

abbrev flat_option : Option Method → Option Method
flat_option None = None
flat_option (Some m) = Some (flat_method m)

slice_get-flat : (methods : List Method) (m : ℕ) → slice_get (flat_file methods) m ≡ flat_option (slice_get methods m)
slice_get-flat [] m = refl
slice_get-flat (x ∷ xs) zero = refl
slice_get-flat (x ∷ xs) (suc m) = slice_get-flat xs m

abbrev PlacedIn : File → Option Method → Type 0
PlacedIn methods None = Unit {0}
PlacedIn methods (Some m) = IsPlacedStatement methods (m.arguments + m.locals) m.body

placed_at : (methods : File) (ms : List Method) (m : ℕ) → AllPlaced methods ms → PlacedIn methods (slice_get ms m)
placed_at methods [] m t = tt
placed_at methods (x ∷ xs) zero t = t.0
placed_at methods (x ∷ xs) (suc m) t = placed_at methods xs m t.1

module _ (methods : File) (calls calls' : Calls) (agree : (m : ℕ) (ws : List ℕ) (q : Answers) →
    Takes methods m (length ws) → calls' m ws q ≡ calls m ws q) where
  body_ok : (o : Option Method) (ws : List ℕ) (q : Answers) →
      PlacedIn methods o →
      TakesIn o (length ws) →
      run_body calls' (flat_option o) ws q ≡ run_body calls o ws q
  body_ok None ws q t n = absurd n
  body_ok (Some g) ws q t n =
      let k : ℕ = g.arguments + g.locals in
      let short : length (ws ++ replicate g.locals 0) ≡ length ws + g.locals = length-append ws (replicate g.locals 0) ∙
      ap (λ i. length ws + i) (length-replicate g.locals 0) in
      let long : length (ws ++ replicate (g.locals + 2 * tries g.body) 0) ≡ length ws + (g.locals + 2 * tries g.body) =
      length-append ws (replicate (g.locals + 2 * tries g.body) 0) ∙
      ap (λ i. length ws + i) (length-replicate (g.locals + 2 * tries g.body) 0) in
      sym (forgets (execute calls' (flat (g.arguments + g.locals) g.body)
      (ws ++ replicate (g.locals + 2 * tries g.body) 0) q))
      ∙ ap (λ x. told x (λ c ls q. given c q)) (flat_ok (g.arguments + g.locals)
      (g.arguments + g.locals + 2 * tries g.body) calls' methods g.body (g.arguments + g.locals)
      (λ c ls q. Ends c [] q) (λ c ls q. Ends c [] q) t (omega arith) (omega arith) (λ c ls new q e a. refl)
      (ws ++ replicate g.locals 0) (ws ++ replicate (g.locals + 2 * tries g.body) 0) q (omega (arith, long, n))
      (record {
        short = omega (arith, short, n);
        long = omega (arith, long, n);
        at = λ i l. padded ws (g.locals + 2 * tries g.body) i ∙ sym (padded ws g.locals i);
      }))
      ∙ forgets (execute calls' g.body (ws ++ replicate g.locals 0) q)
      ∙ ap (λ (f : List ℕ → Answers → Course Completion). told (f (ws ++ replicate g.locals 0) q) (λ c ls q. given c q))
      (runs methods calls calls' agree (g.arguments + g.locals) g.body t)

invoke_ok : (methods : File) →
    AllPlaced methods methods →
    (depth m : ℕ) (ws : List ℕ) (q : Answers) →
    Takes methods m (length ws) →
    invoke (flat_file methods) depth m ws q ≡ invoke methods depth m ws q
unfolding invoke
invoke_ok methods t zero m ws q n = refl
invoke_ok methods t (suc d) m ws q n =
    ap (λ (o : Option Method). enter (Enter m) q (run_body (invoke (flat_file methods) d) o ws))
    (slice_get-flat methods m)
    ∙ ap (enter (Enter m) q)
    (fun_ext (λ q. body_ok methods (invoke methods d) (invoke (flat_file methods) d) (invoke_ok methods t d)
    (slice_get methods m) ws q (placed_at methods methods m t) n))

-- the law: the lowered tree keeps the courses of methods
pub keeps : KeepsCourses
keeps = invoke_ok
