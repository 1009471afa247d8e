-- Arguments and suffixes of expressions: what is read is spelled so and well-formed.
use Rattle.std.proofs.Common.{◌≡◌, ℕ, suc, ◌<◌, ◌≤◌, Bool, true, false, List, [], ◌∷◌, ◌++◌, length, Some, None, refl}
use Rattle.std.proofs.Common.{sym, ap, subst, ◌∙◌, inl, inr, arith}
use Rattle.ls_lexer.specs.declared.sign.Sign.TheVariants as signs
use Rattle.ls_lexer.specs.Lexemes.{Lexeme, Named, Marked}
use Rattle.ls_tree.specs.Trees.{Expression, Field, CallOn, Item, Expressions, listed}
use Rattle.ls_tree.specs.WellFormed.{is_post, is_new_array, WellFormed, AreWellFormed, expression_height}
use Rattle.ls_tree.specs.WellFormed.{expressions_height}
use Rattle.ls_parser_tokens.specs.Reading.{◌>>=◌, Reader, after_sign, name_at, not_yet, one_more, many_from}
use Rattle.ls_parser_tokens.specs.Reading.{behind_comma, others_at, group_at}
use Rattle.ls_parser_expressions.specs.ReadingExpressions.{below, arguments_at, member_at, index_at, item_at, suffix_at}
use Rattle.ls_parser_expressions.proofs.Repeats.{bind_some, some_is, repeat_sound}
use Rattle.ls_parser_expressions.proofs.Signs.{guarded, either, given_cases, sign_reads, name_reads}
use Rattle.ls_parser_expressions.proofs.Onto.{onto, onto_expressions, onto_others}
use Rattle.ls_parser_expressions.proofs.ChainsRead.{Sound, below_is}

-- ---- groups of arguments

abbrev pub AllExpressions : ℕ → List Expression → Type 0
AllExpressions limit [] = Unit {0}
AllExpressions limit (t ∷ ts) = WellFormed false t × (expression_height t ≤ limit) × AllExpressions limit ts

abbrev pub onto_more : List Expression → List Lexeme → List Lexeme
onto_more [] rest = rest
onto_more (t ∷ ts) rest = Marked signs.Comma ∷ onto t (onto_more ts rest)

onto_more_push : (ts : List Expression) (t : Expression) (rest : List Lexeme) →
    onto_more (ts ++ t ∷ []) rest ≡ onto_more ts (Marked signs.Comma ∷ onto t rest)
onto_more_push [] t rest = refl
onto_more_push (u ∷ ts) t rest = ap (λ (ks : List Lexeme). Marked signs.Comma ∷ onto u ks) (onto_more_push ts t rest)

all_push : (limit : ℕ) (ts : List Expression) (t : Expression) →
    AllExpressions limit ts →
    WellFormed false t →
    expression_height t ≤ limit →
    AllExpressions limit (ts ++ t ∷ [])
all_push limit [] t all formed fits = (formed, fits, tt)
all_push limit (u ∷ ts) t all formed fits = (all.0, all.1, all_push limit ts t all.2 formed fits)

others_are : (ts : List Expression) (rest : List Lexeme) →
    onto_others (listed ts) rest ≡ onto_more ts (Marked signs.CloseParen ∷ rest)
others_are [] rest = refl
others_are (t ∷ ts) rest = ap (λ (ks : List Lexeme). Marked signs.Comma ∷ onto t ks) (others_are ts rest)

all_formed : (limit : ℕ) (ts : List Expression) →
    AllExpressions limit ts →
    AreWellFormed (listed ts) × (expressions_height (listed ts) ≤ limit)
all_formed limit [] all = (tt, omega arith)
all_formed limit (t ∷ ts) all =
    let more = all_formed limit ts all.2 in
    ((all.0, more.0), omega (arith, all.1, more.1))

-- what was read of arguments so far
record InArguments (limit : ℕ) (first : Expression) (whole : List Lexeme) (front : List Expression) (ks : List Lexeme) :
    Type 0 where
  others : List Expression
  is : front ≡ first ∷ others
  spelled : whole ≡ onto_more others ks
  all : AllExpressions limit others

pub record ReadsExpressions (limit : ℕ) (ks : List Lexeme) (x : Expressions × List Lexeme) : Type 0 where
  pub spelled : ks ≡ onto_expressions x.0 x.1
  pub formed : AreWellFormed x.0
  pub fits : expressions_height x.0 ≤ limit

module _ (limit : ℕ) (expression : Reader Expression) (sound : Sound expression false 6 limit) where
  argument_sound : (first : Expression) (whole : List Lexeme) (front : List Expression) (ks : List Lexeme)
      (x : List Expression × List Lexeme)
      → InArguments limit first whole front ks → one_more (behind_comma expression) front ks ≡ Some x →
      InArguments limit first whole x.0 x.1
  argument_sound first whole front ks x before e =
      let b = bind_some (behind_comma expression ks) _ x e in
      let c = bind_some (after_sign signs.Comma ks) _ b.0 b.1 in
      let t = sound c.0 b.0 c.2 in
      subst (λ (y : List Expression × List Lexeme). InArguments limit first whole y.0 y.1)
      (some_is (front ++ b.0.0 ∷ [], b.0.1) x b.2) (record {
        others = before.others ++ b.0.0 ∷ [];
        is = ap (λ (l : List Expression). l ++ b.0.0 ∷ []) before.is;
        spelled = before.spelled ∙
            ap (onto_more before.others) (sign_reads signs.Comma ks c.0 c.1 ∙
            ap (λ (r : List Lexeme). Marked signs.Comma ∷ r) t.spelled) ∙
            sym (onto_more_push before.others b.0.0 b.0.1);
        all = all_push limit before.others b.0.0 before.all t.formed t.fits;
      })

  pub arguments_sound : (ks : List Lexeme) (x : Expressions × List Lexeme) →
      arguments_at expression ks ≡ Some x →
      ReadsExpressions limit ks x
  arguments_sound ks x e =
      let a = bind_some (group_at expression ks) _ x e in
      subst (ReadsExpressions limit ks) (some_is (listed a.0.0, a.0.1) x a.2)
      (elim (given_cases (after_sign signs.CloseParen ks) (λ rest. Some ([], rest))
      (expression ks >>= λ first. others_at expression first.0 first.1) (Some a.0) a.1) [
        | inl go ↦
            let f = bind_some (expression ks) _ a.0 go.1 in
            let m = bind_some (many_from (f.0.0 ∷ []) (not_yet signs.CloseParen) (behind_comma expression) f.0.1) _ a.0
            f.2 in
            let c = bind_some (after_sign signs.CloseParen m.0.1) _ a.0 m.2 in
            let first = sound ks f.0 f.1 in
            let took = (repeat_sound (not_yet signs.CloseParen) (one_more (behind_comma expression))
            (λ front rest. InArguments limit f.0.0 f.0.1 front rest)
            (λ front rest y before goes step. argument_sound f.0.0 f.0.1 front rest y before step)
            (length f.0.1) (f.0.0 ∷ []) f.0.1 m.0 (record { others = []; is = refl; spelled = refl; all = tt }) m.1).0
            in
            let formed = all_formed limit took.others took.all in
            let made : (f.0.0 ∷ took.others, c.0) ≡ a.0 = ap (λ (l : List Expression). (l, c.0)) (sym took.is) ∙
            some_is (m.0.0, c.0) a.0 c.2 in
            subst (λ (y : List Expression × List Lexeme). ReadsExpressions limit ks (listed y.0, y.1)) made (record {
              spelled = first.spelled ∙
                  ap (onto f.0.0) (took.spelled ∙ ap (onto_more took.others) (sign_reads signs.CloseParen m.0.1 c.0 c.1)
                  ∙ sym (others_are took.others c.0));
              formed = (first.formed, formed.0);
              fits = omega (arith, first.fits, formed.1);
            })
        | inr closed ↦
            subst (λ (y : List Expression × List Lexeme). ReadsExpressions limit ks (listed y.0, y.1))
            (some_is ([], closed.0) a.0 closed.2)
            (record { spelled = sign_reads signs.CloseParen ks closed.0 closed.1; formed = tt; fits = omega arith })
      ])

  -- ---- suffixes

  pub record ReadsPost (after_minus : Bool) (ks : List Lexeme) (x : Expression × List Lexeme) : Type 0 where
    pub spelled : ks ≡ onto x.0 x.1
    pub formed : WellFormed after_minus x.0
    pub post : is_post x.0 ≡ true
    pub fits : expression_height x.0 ≤ suc limit

  pub record ReadsIndex (ks : List Lexeme) (x : Expression × List Lexeme) : Type 0 where
    pub spelled : ks ≡ Marked signs.OpenBracket ∷ onto x.0 (Marked signs.CloseBracket ∷ x.1)
    pub formed : WellFormed false x.0
    pub fits : expression_height x.0 ≤ limit

  pub index_sound : (ks : List Lexeme) (x : Expression × List Lexeme) → index_at expression ks ≡ Some x → ReadsIndex ks
      x
  index_sound ks x e =
      let a = bind_some (after_sign signs.OpenBracket ks) _ x e in
      let b = bind_some (expression a.0) _ x a.2 in
      let c = bind_some (after_sign signs.CloseBracket b.0.1) _ x b.2 in
      let t = sound a.0 b.0 b.1 in
      subst (ReadsIndex ks) (some_is (b.0.0, c.0) x c.2) (record {
        spelled = sign_reads signs.OpenBracket ks a.0 a.1 ∙
            ap (λ (r : List Lexeme). Marked signs.OpenBracket ∷ r)
            (t.spelled ∙ ap (onto b.0.0) (sign_reads signs.CloseBracket b.0.1 c.0 c.1));
        formed = t.formed;
        fits = t.fits;
      })

  module _ (after_minus : Bool) (whole : List Lexeme) (left : Expression) (ks : List Lexeme)
      (x : Expression × List Lexeme) (before : ReadsPost after_minus whole (left, ks))
      (low : expression_height left < suc limit) where
    member_sound : (rest : List Lexeme) →
        after_sign signs.Dot ks ≡ Some rest →
        member_at expression left rest ≡ Some x →
        ReadsPost after_minus whole x
    member_sound rest dot e =
        let n = bind_some (name_at rest) _ x e in
        let head : whole ≡ onto left (Marked signs.Dot ∷ Named n.0.0 ∷ n.0.1) =
        before.spelled ∙
        ap (onto left) (sign_reads signs.Dot ks rest dot ∙
        ap (λ (r : List Lexeme). Marked signs.Dot ∷ r) (name_reads rest n.0 n.1)) in
        elim (given_cases (after_sign signs.OpenParen n.0.1) _ (Some (Field left n.0.0, n.0.1)) (Some x) n.2) [
          | inl field ↦
              subst (ReadsPost after_minus whole) (some_is (Field left n.0.0, n.0.1) x field.1)
              (record { spelled = head; formed = (before.post, before.formed); post = refl; fits = omega (arith, low) })
          | inr call ↦
              let a = bind_some (arguments_at expression call.0) _ x call.2 in
              let ts = arguments_sound call.0 a.0 a.1 in
              subst (ReadsPost after_minus whole) (some_is (CallOn left n.0.0 a.0.0, a.0.1) x a.2) (record {
                spelled = head ∙ ap (λ (r : List Lexeme). onto left (Marked signs.Dot ∷ Named n.0.0 ∷ r))
                    (sign_reads signs.OpenParen n.0.1 call.0 call.1 ∙
                    ap (λ (r : List Lexeme). Marked signs.OpenParen ∷ r) ts.spelled);
                formed = (before.post, before.formed, ts.formed);
                post = refl;
                fits = omega (arith, low, ts.fits);
              })
        ]

    item_sound : item_at expression left ks ≡ Some x → ReadsPost after_minus whole x
    item_sound e =
        elim (either (is_new_array left) None _ (Some x) e) [
          | inl array ↦ absurd (let none = array.1 in cc none)
          | inr other ↦
              let i = bind_some (index_at expression ks) _ x other.1 in
              let index = index_sound ks i.0 i.1 in
              subst (ReadsPost after_minus whole) (some_is (Item left i.0.0, i.0.1) x i.2) (record {
                spelled = before.spelled ∙ ap (onto left) index.spelled;
                formed = (before.post, other.0, before.formed, index.formed);
                post = refl;
                fits = omega (arith, low, index.fits);
              })
        ]

  pub suffix_sound :
      (after_minus : Bool) (whole : List Lexeme) (left : Expression) (ks : List Lexeme) (x : Expression × List Lexeme) →
      ReadsPost after_minus whole (left, ks) →
      suffix_at (suc limit) expression left ks ≡ Some x →
      ReadsPost after_minus whole x
  suffix_sound after_minus whole left ks x before e =
      let g = guarded (below (suc limit) left) _ x e in
      let low = below_is (suc limit) left g.0 in
      elim (given_cases (after_sign signs.Dot ks) _ (item_at expression left ks) (Some x) g.1) [
        | inl other ↦ item_sound after_minus whole left ks x before low other.1
        | inr dot ↦ member_sound after_minus whole left ks x before low dot.0 dot.1 dot.2
      ]
