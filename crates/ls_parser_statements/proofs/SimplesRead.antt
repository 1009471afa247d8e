-- Simple forms: what is read is spelled so and well-formed.
use Rattle.std.proofs.Common.{◌≡◌, ℕ, zero, suc, ◌+◌, ◌≤◌, ◌<◌, Bool, true, false, List, [], ◌∷◌, ◌++◌, length}
use Rattle.std.proofs.Common.{Option, Some, None, refl, sym, ap, subst, ◌∙◌, inl, inr, arith}
use Rattle.std.specs.List.{AllByRecursion}
use Rattle.ls_lexer.specs.declared.sign.Sign.{Sign}
use Rattle.ls_lexer.specs.declared.sign.Sign.TheVariants as signs
use Rattle.ls_lexer.specs.Lexemes.{Lexeme, Marked}
use Rattle.ls_tree.specs.Trees.{Expression, Simple, Assign, Add, Count, Evaluate}
use Rattle.ls_tree.specs.WellFormed.{WellFormed, is_post, is_call, expression_height, simple_height, simples_height}
use Rattle.ls_tree.specs.WellFormed.{WellFormedSimple, WellFormedSimples}
use Rattle.ls_parser_spelling.specs.Spelling.{count_sign}
use Rattle.ls_parser_tokens.specs.Reading.{◌>>=◌, after_sign, starts, one_more, many_from, behind_comma}
use Rattle.ls_parser_expressions.specs.ReadingExpressions.{expression_at, post_at}
use Rattle.ls_parser_statements.specs.ReadingStatements.{counted_at, used_at, simple_from, simple_at, simples_at}
use Rattle.ls_parser_statements.specs.ReadingStatements.{simples_to}
use Rattle.ls_parser_expressions.proofs.Repeats.{bind_some, some_is, repeat_sound}
use Rattle.ls_parser_expressions.proofs.Signs.{guard_some, given_cases, sign_reads}
use Rattle.ls_parser_expressions.proofs.Shrinks.{Shrinks}
use Rattle.ls_parser_expressions.proofs.Onto.{onto}
use Rattle.ls_parser_expressions.proofs.Lists.{onto_all, onto_all_push, all_push}
use Rattle.ls_parser_expressions.proofs.ExpressionsRead.{expression_sound, post_sound}
use Rattle.ls_parser_statements.proofs.OntoStatements.{onto_simple, onto_next_simple, onto_simples, simple_longer}

abbrev cons : Lexeme → List Lexeme → List Lexeme
cons k ks = k ∷ ks

-- a simple form that is well formed and not too high
abbrev pub FormedSimple : ℕ → Simple → Type 0
FormedSimple limit s = WellFormedSimple s × (simple_height s ≤ limit)

pub record ReadsSimple (limit : ℕ) (ks : List Lexeme) (x : Simple × List Lexeme) : Type 0 where
  pub spelled : ks ≡ onto_simple x.0 x.1
  pub formed : FormedSimple limit x.0

counted_reads : (ks : List Lexeme) (x : Bool × List Lexeme) →
    counted_at ks ≡ Some x →
    ks ≡ Marked (count_sign x.0) ∷ x.1
counted_reads ks x e =
    elim (given_cases (after_sign signs.Increment ks) (λ rest. Some (true, rest))
    (after_sign signs.Decrement ks >>= λ rest. Some (false, rest)) (Some x) e) [
      | inl more ↦
          let d = bind_some (after_sign signs.Decrement ks) (λ rest. Some (false, rest)) x more.1 in
          sign_reads signs.Decrement ks d.0 d.1 ∙ ap (λ (y : Bool × List Lexeme). Marked (count_sign y.0) ∷ y.1)
          (some_is (false, d.0) x d.2)
      | inr up ↦ sign_reads signs.Increment ks up.0 up.1 ∙
          ap (λ (y : Bool × List Lexeme). Marked (count_sign y.0) ∷ y.1) (some_is (true, up.0) x up.2)
    ]

module _ (limit : ℕ) where
  used_sound : (target : Expression) (whole ks : List Lexeme) (x : Simple × List Lexeme) →
      whole ≡ onto target ks →
      is_post target ≡ true →
      WellFormed false target →
      expression_height target ≤ limit →
      used_at (expression_at limit) target ks ≡ Some x →
      ReadsSimple (suc limit) whole x
  used_sound target whole ks x before post formed fits e =
      elim (given_cases (after_sign signs.Assign ks) _ _ (Some x) e) [
        | inr assign ↦
            let t = bind_some (expression_at limit assign.0) _ x assign.2 in
            let value = expression_sound limit assign.0 t.0 t.1 in
            subst (ReadsSimple (suc limit) whole) (some_is (Assign target t.0.0, t.0.1) x t.2) (record {
              spelled = before ∙
                  ap (onto target) (sign_reads signs.Assign ks assign.0 assign.1 ∙
                  ap (cons (Marked signs.Assign)) value.spelled);
              formed = ((post, formed, value.formed), omega (arith, fits, value.fits));
            })
        | inl next ↦
            elim (given_cases (after_sign signs.PlusAssign ks) _ _ (Some x) next.1) [
              | inr add ↦
                  let t = bind_some (expression_at limit add.0) _ x add.2 in
                  let value = expression_sound limit add.0 t.0 t.1 in
                  subst (ReadsSimple (suc limit) whole) (some_is (Add target t.0.0, t.0.1) x t.2) (record {
                    spelled = before ∙
                        ap (onto target) (sign_reads signs.PlusAssign ks add.0 add.1 ∙
                        ap (cons (Marked signs.PlusAssign)) value.spelled);
                    formed = ((post, formed, value.formed), omega (arith, fits, value.fits));
                  })
              | inl last ↦
                  elim (given_cases (counted_at ks) _ _ (Some x) last.1) [
                    | inr count ↦
                        subst (ReadsSimple (suc limit) whole)
                        (some_is (Count count.0.0 false target, count.0.1) x count.2) (record {
                          spelled = before ∙ ap (onto target) (counted_reads ks count.0 count.1);
                          formed = ((post, formed), omega (arith, fits));
                        })
                    | inl call ↦
                        let g = guard_some (is_call target) (Evaluate target, ks) x call.1 in
                        subst (ReadsSimple (suc limit) whole) g.1 (record {
                          spelled = before;
                          formed = ((g.0, formed), omega (arith, fits));
                        })
                  ]
            ]
      ]

  -- a simple form that is read is spelled by its tokens
  pub from_sound : (ks : List Lexeme) (x : Simple × List Lexeme) →
      simple_from (post_at limit false) (expression_at limit) ks ≡ Some x →
      ReadsSimple (suc limit) ks x
  from_sound ks x e =
      elim (given_cases (counted_at ks) _ _ (Some x) e) [
        | inr count ↦
            let p = bind_some (post_at limit false count.0.1) _ x count.2 in
            let target = post_sound limit false count.0.1 p.0 p.1 in
            subst (ReadsSimple (suc limit) ks) (some_is (Count count.0.0 true p.0.0, p.0.1) x p.2) (record {
              spelled = counted_reads ks count.0 count.1 ∙ ap (cons (Marked (count_sign count.0.0))) target.spelled;
              formed = ((target.post, target.formed), omega (arith, target.fits));
            })
        | inl used ↦
            let p = bind_some (post_at limit false ks) _ x used.1 in
            let target = post_sound limit false ks p.0 p.1 in
            used_sound p.0.0 ks p.0.1 x target.spelled target.post target.formed target.fits p.2
      ]

pub simple_sound : (limit : ℕ) (ks : List Lexeme) (x : Simple × List Lexeme) →
    simple_at limit ks ≡ Some x →
    ReadsSimple limit ks x
simple_sound zero ks x e = absurd cc
simple_sound (suc limit) ks x e = from_sound limit ks x e

-- a simple form takes a token
pub simple_shrinks : (limit : ℕ) → Shrinks (simple_at limit)
simple_shrinks limit ks x e = omega (arith, ap length (simple_sound limit ks x e).spelled, simple_longer x.0 x.1)

-- ---- lists of them

simples_formed : (limit : ℕ) (ss : List Simple) →
    AllByRecursion (FormedSimple limit) ss →
    WellFormedSimples ss × (simples_height ss ≤ limit)
simples_formed limit [] all = (tt, omega arith)
simples_formed limit (s ∷ ss) all =
    let more = simples_formed limit ss all.1 in
    ((all.0.0, more.0), omega (arith, all.0.1, more.1))

-- what was read of simple forms so far
record InSimples (limit : ℕ) (first : Simple) (whole : List Lexeme) (front : List Simple) (ks : List Lexeme) : Type 0
  where
    others : List Simple
    is : front ≡ first ∷ others
    spelled : whole ≡ onto_all onto_next_simple others ks
    each : AllByRecursion (FormedSimple limit) others

next_sound : (limit : ℕ) (first : Simple) (whole : List Lexeme) (front : List Simple) (ks : List Lexeme)
    (x : List Simple × List Lexeme)
    → InSimples limit first whole front ks → one_more (behind_comma (simple_at limit)) front ks ≡ Some x →
    InSimples limit first whole x.0 x.1
next_sound limit first whole front ks x before e =
    let b = bind_some (behind_comma (simple_at limit) ks) _ x e in
    let c = bind_some (after_sign signs.Comma ks) _ b.0 b.1 in
    let p = simple_sound limit c.0 b.0 c.2 in
    subst (λ (y : List Simple × List Lexeme). InSimples limit first whole y.0 y.1)
    (some_is (front ++ b.0.0 ∷ [], b.0.1) x b.2) (record {
      others = before.others ++ b.0.0 ∷ [];
      is = ap (λ (l : List Simple). l ++ b.0.0 ∷ []) before.is;
      spelled = before.spelled ∙
          ap (onto_all onto_next_simple before.others) (sign_reads signs.Comma ks c.0 c.1 ∙
          ap (cons (Marked signs.Comma)) p.spelled) ∙ sym (onto_all_push onto_next_simple before.others b.0.0 b.0.1);
      each = all_push (FormedSimple limit) before.others b.0.0 before.each p.formed;
    })

pub record ReadsSimples (limit : ℕ) (ks : List Lexeme) (simples : List Simple) (rest : List Lexeme) : Type 0 where
  pub spelled : ks ≡ onto_simples simples rest
  pub formed : WellFormedSimples simples
  pub fits : simples_height simples ≤ limit

some_sound : (limit : ℕ) (ks : List Lexeme) (x : List Simple × List Lexeme) →
    simples_at (simple_at limit) ks ≡ Some x →
    ReadsSimples limit ks x.0 x.1
some_sound limit ks x e =
    let f = bind_some (simple_at limit ks) _ x e in
    let first = simple_sound limit ks f.0 f.1 in
    let took = (repeat_sound (starts signs.Comma) (one_more (behind_comma (simple_at limit)))
    (λ front rest. InSimples limit f.0.0 f.0.1 front rest)
    (λ front rest y before goes step. next_sound limit f.0.0 f.0.1 front rest y before step)
    (length f.0.1) (f.0.0 ∷ []) f.0.1 x (record { others = []; is = refl; spelled = refl; each = tt }) f.2).0 in
    let formed = simples_formed limit (f.0.0 ∷ took.others) (first.formed, took.each) in
    subst (λ (l : List Simple). ReadsSimples limit ks l x.1) (sym took.is) (record {
      spelled = first.spelled ∙ ap (onto_simple f.0.0) took.spelled;
      formed = formed.0;
      fits = formed.1;
    })

-- with the sign after them
pub simples_sound : (limit : ℕ) (stop : Sign) (ks : List Lexeme) (x : List Simple × List Lexeme) →
    simples_to stop (simple_at limit) ks ≡ Some x →
    ReadsSimples limit ks x.0 (Marked stop ∷ x.1)
simples_sound limit stop ks x e =
    elim (given_cases (after_sign stop ks) (λ rest. Some ([], rest))
    (simples_at (simple_at limit) ks >>= λ all. after_sign stop all.1 >>= λ rest. Some (all.0, rest)) (Some x) e) [
      | inl go ↦
          let all = bind_some (simples_at (simple_at limit) ks) _ x go.1 in
          let c = bind_some (after_sign stop all.0.1) _ x all.2 in
          let r = some_sound limit ks all.0 all.1 in
          subst (λ (y : List Simple × List Lexeme). ReadsSimples limit ks y.0 (Marked stop ∷ y.1))
          (some_is (all.0.0, c.0) x c.2)
          (record {
            spelled = r.spelled ∙ ap (onto_simples all.0.0) (sign_reads stop all.0.1 c.0 c.1);
            formed =
                r.formed;
            fits = r.fits;
          })
      | inr end ↦
          subst (λ (y : List Simple × List Lexeme). ReadsSimples limit ks y.0 (Marked stop ∷ y.1))
          (some_is ([], end.0) x end.2)
          (record { spelled = sign_reads stop ks end.0 end.1; formed = tt; fits = omega arith })
    ]
