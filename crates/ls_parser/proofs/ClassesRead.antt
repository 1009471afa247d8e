-- Members, classes and files: what is read is spelled so and well-formed.
use Rattle.std.proofs.Common.{◌≡◌, Bool, true, false, List, [], ◌∷◌, ◌++◌, length, if◌then◌else◌, Option, Some, None}
use Rattle.std.proofs.Common.{refl, sym, ap, subst, ◌∙◌, inl, inr, arith}
use Rattle.std.specs.List.{AllByRecursion}
use Rattle.ls_lexer.specs.declared.sign.Sign.TheVariants as signs
use Rattle.ls_lexer.specs.declared.word.Word.TheVariants as words
use Rattle.ls_lexer.specs.Lexemes.{Lexeme, Named, Reserved, Marked}
use Rattle.ls_tree.specs.Trees.{Modifier, TypeName, Parameter, Member, Fields, Method, Constructor, ClassTree, Dotted}
use Rattle.ls_tree.specs.Trees.{Import, File}
use Rattle.ls_tree.specs.PlacedTrees.{some_in}
use Rattle.ls_tree.specs.WellFormed.{most_nodes, WellFormedMember, WellFormedFile}
use Rattle.ls_parser_tokens.specs.Reading.{◌>>=◌, given, after_sign, after_word, name_at, not_yet, one_more}
use Rattle.ls_parser_tokens.specs.Reading.{many_from, many_at, behind_comma, others_at, group_at}
use Rattle.ls_parser_expressions.specs.ReadingExpressions.{expression_at}
use Rattle.ls_parser_declarations.specs.ReadingDeclarations.{modifiers_at, type_at, declarators_at}
use Rattle.ls_parser_statements.specs.ReadingStatements.{block_at}
use Rattle.ls_parser.specs.ReadingClasses.{parameter_of, parameter_at, parameters_at, starts_call, constructor_at}
use Rattle.ls_parser.specs.ReadingClasses.{method_at, typed_at, unmodified_at, starts_locked, locked_at}
use Rattle.ls_parser.specs.ReadingClasses.{all_locked_at, locked_member_at, member_at, class_of, class_at, part_at}
use Rattle.ls_parser.specs.ReadingClasses.{dotted_of, dotted_at, after_star, more_path, import_of, import_at}
use Rattle.ls_parser.specs.ReadingClasses.{package_at, header_at, starts_import, is_left, file_from, file_at}
use Rattle.ls_parser_expressions.proofs.Repeats.{bind_some, some_is, repeat_sound}
use Rattle.ls_parser_expressions.proofs.Signs.{either, given_cases, sign_reads, word_reads, name_reads}
use Rattle.ls_parser_expressions.proofs.Shrinks.{Shrinks}
use Rattle.ls_parser_expressions.proofs.Lists.{onto_all, onto_all_push, SoundItem, many_sound}
use Rattle.ls_parser_declarations.proofs.OntoDeclarations.{onto_modifier, onto_type}
use Rattle.ls_parser.proofs.OntoClasses.{onto_parameter, parameter_longer, onto_next_parameter, onto_group}
use Rattle.ls_parser.proofs.OntoClasses.{onto_parameters, onto_result, onto_locked, locked_longer, onto_member}
use Rattle.ls_parser.proofs.OntoClasses.{member_longer, onto_class_tree, class_longer, onto_part, part_longer}
use Rattle.ls_parser.proofs.OntoClasses.{onto_dotted, onto_import, import_longer, onto_header, onto_file}
use Rattle.ls_parser_declarations.proofs.DeclarationsRead.{Anything, modifiers_sound, type_sound, declarators_sound}
use Rattle.ls_parser_statements.proofs.StatementsRead.{block_sound}

abbrev cons : Lexeme → List Lexeme → List Lexeme
cons k ks = k ∷ ks

-- ---- parameters

pub parameter_sound : SoundItem onto_parameter Anything parameter_at
parameter_sound ks x e =
    let m = bind_some (modifiers_at ks) _ x e in
    let t = bind_some (type_at m.0.1) _ x m.2 in
    let n = bind_some (name_at t.0.1) _ x t.2 in (
      modifiers_sound ks m.0 m.1 ∙
          ap (onto_all onto_modifier m.0.0) (type_sound m.0.1 t.0 t.1 ∙ ap (onto_type t.0.0) (name_reads t.0.1 n.0 n.1))
          ∙ ap (λ (y : Parameter × List Lexeme). onto_parameter y.0 y.1)
          (some_is (parameter_of m.0.0 t.0.0 n.0.0, n.0.1) x n.2),
      tt,
    )

-- what was read of parameters so far
record InParameters (first : Parameter) (whole : List Lexeme) (front : List Parameter) (ks : List Lexeme) : Type 0 where
  others : List Parameter
  is : front ≡ first ∷ others
  spelled : whole ≡ onto_all onto_next_parameter others ks

next_sound : (first : Parameter) (whole : List Lexeme) (front : List Parameter) (ks : List Lexeme)
    (x : List Parameter × List Lexeme)
    → InParameters first whole front ks → one_more (behind_comma parameter_at) front ks ≡ Some x →
    InParameters first whole x.0 x.1
next_sound first whole front ks x before e =
    let b = bind_some (behind_comma parameter_at ks) _ x e in
    let c = bind_some (after_sign signs.Comma ks) _ b.0 b.1 in
    let p = parameter_sound c.0 b.0 c.2 in
    subst (λ (y : List Parameter × List Lexeme). InParameters first whole y.0 y.1)
    (some_is (front ++ b.0.0 ∷ [], b.0.1) x b.2) (record {
      others = before.others ++ b.0.0 ∷ [];
      is = ap (λ (l : List Parameter). l ++ b.0.0 ∷ []) before.is;
      spelled = before.spelled ∙
          ap (onto_all onto_next_parameter before.others) (sign_reads signs.Comma ks c.0 c.1 ∙
          ap (cons (Marked signs.Comma)) p.0) ∙ sym (onto_all_push onto_next_parameter before.others b.0.0 b.0.1);
    })

group_sound : (ks : List Lexeme) (x : List Parameter × List Lexeme) →
    group_at parameter_at ks ≡ Some x →
    ks ≡ onto_group x.0 x.1
group_sound ks x e =
    elim (given_cases (after_sign signs.CloseParen ks) (λ rest. Some ([], rest))
    (parameter_at ks >>= λ first. others_at parameter_at first.0 first.1) (Some x) e) [
      | inl go ↦
          let f = bind_some (parameter_at ks) _ x go.1 in
          let m = bind_some (many_from (f.0.0 ∷ []) (not_yet signs.CloseParen) (behind_comma parameter_at) f.0.1) _ x
          f.2 in
          let c = bind_some (after_sign signs.CloseParen m.0.1) _ x m.2 in
          let first = parameter_sound ks f.0 f.1 in
          let took = (repeat_sound (not_yet signs.CloseParen) (one_more (behind_comma parameter_at))
          (λ front rest. InParameters f.0.0 f.0.1 front rest)
          (λ front rest y before goes step. next_sound f.0.0 f.0.1 front rest y before step)
          (length f.0.1) (f.0.0 ∷ []) f.0.1 m.0 (record { others = []; is = refl; spelled = refl }) m.1).0 in
          let made : (f.0.0 ∷ took.others, c.0) ≡ x = ap (λ (l : List Parameter). (l, c.0)) (sym took.is) ∙
          some_is (m.0.0, c.0) x c.2 in
          first.0 ∙ ap (onto_parameter f.0.0)
          (took.spelled ∙ ap (onto_all onto_next_parameter took.others) (sign_reads signs.CloseParen m.0.1 c.0 c.1))
          ∙ ap (λ (y : List Parameter × List Lexeme). onto_group y.0 y.1) made
      | inr closed ↦ sign_reads signs.CloseParen ks closed.0 closed.1 ∙
          ap (λ (y : List Parameter × List Lexeme). onto_group y.0 y.1) (some_is ([], closed.0) x closed.2)
    ]

parameters_sound : (ks : List Lexeme) (x : List Parameter × List Lexeme) →
    parameters_at ks ≡ Some x →
    ks ≡ onto_parameters x.0 x.1
parameters_sound ks x e =
    let o = bind_some (after_sign signs.OpenParen ks) _ x e in
    sign_reads signs.OpenParen ks o.0 o.1 ∙ ap (cons (Marked signs.OpenParen)) (group_sound o.0 x o.2)

-- ---- members

abbrev pub IsRead : List Lexeme → Member × List Lexeme → Type 0
IsRead ks x = (ks ≡ onto_member x.0 x.1) × WellFormedMember x.0

constructor_sound : (modifiers : List Modifier) (whole ks : List Lexeme) (x : Member × List Lexeme) →
    whole ≡ onto_all onto_modifier modifiers ks →
    constructor_at modifiers ks ≡ Some x →
    IsRead whole x
constructor_sound modifiers whole ks x before e =
    let n = bind_some (name_at ks) _ x e in
    let p = bind_some (parameters_at n.0.1) _ x n.2 in
    let b = bind_some (block_at most_nodes p.0.1) _ x p.2 in
    let body = block_sound most_nodes p.0.1 b.0 b.1 in
    subst (IsRead whole) (some_is (Constructor modifiers n.0.0 p.0.0 b.0.0, b.0.1) x b.2) (
      before ∙ ap (onto_all onto_modifier modifiers)
          (name_reads ks n.0 n.1 ∙
          ap (cons (Named n.0.0)) (parameters_sound n.0.1 p.0 p.1 ∙ ap (onto_parameters p.0.0) body.spelled)),
      (body.formed, body.fits),
    )

method_sound :
    (modifiers : List Modifier) (locked : List (List Modifier)) (result : Option TypeName) (whole ks : List Lexeme)
    (x : Member × List Lexeme) →
    whole ≡ onto_all onto_modifier modifiers (onto_all onto_locked locked (onto_result result ks)) →
    method_at modifiers locked result ks ≡ Some x →
    IsRead whole x
method_sound modifiers locked result whole ks x before e =
    let n = bind_some (name_at ks) _ x e in
    let p = bind_some (parameters_at n.0.1) _ x n.2 in
    let b = bind_some (block_at most_nodes p.0.1) _ x p.2 in
    let body = block_sound most_nodes p.0.1 b.0 b.1 in
    subst (IsRead whole) (some_is (Method modifiers locked result n.0.0 p.0.0 b.0.0, b.0.1) x b.2) (
      before ∙ ap (λ (r : List Lexeme). onto_all onto_modifier modifiers
          (onto_all onto_locked locked (onto_result result r)))
          (name_reads ks n.0 n.1 ∙
          ap (cons (Named n.0.0)) (parameters_sound n.0.1 p.0 p.1 ∙ ap (onto_parameters p.0.0) body.spelled)),
      (body.formed, body.fits),
    )

typed_sound : (modifiers : List Modifier) (type_name : TypeName) (whole ks : List Lexeme) (x : Member × List Lexeme) →
    whole ≡ onto_all onto_modifier modifiers (onto_type type_name ks) →
    typed_at modifiers type_name ks ≡ Some x →
    IsRead whole x
typed_sound modifiers type_name whole ks x before e =
    elim (either (starts_call ks) (method_at modifiers [] (Some type_name) ks)
    (declarators_at (expression_at most_nodes) modifiers type_name ks >>= λ d. Some (Fields d.0, d.1)) (Some x) e) [
      | inl method ↦ method_sound modifiers [] (Some type_name) whole ks x before method.1
      | inr fields ↦
          let d = bind_some (declarators_at (expression_at most_nodes) modifiers type_name ks) _ x fields.1 in
          let r = declarators_sound most_nodes modifiers type_name whole ks d.0 before d.1 in
          subst (IsRead whole) (some_is (Fields d.0.0, d.0.1) x d.2) (r.spelled, (r.formed, r.fits))
    ]

unmodified_sound : (modifiers : List Modifier) (whole ks : List Lexeme) (x : Member × List Lexeme) →
    whole ≡ onto_all onto_modifier modifiers ks →
    unmodified_at modifiers ks ≡ Some x →
    IsRead whole x
unmodified_sound modifiers whole ks x before e =
    elim (either (starts_call ks) (constructor_at modifiers ks)
    (given (after_word words.Void ks) (λ rest. method_at modifiers [] None rest)
    (type_at ks >>= λ type_name. typed_at modifiers type_name.0 type_name.1)) (Some x) e) [
      | inl constructor ↦ constructor_sound modifiers whole ks x before constructor.1
      | inr other ↦
          elim (given_cases (after_word words.Void ks) (λ rest. method_at modifiers [] None rest)
          (type_at ks >>= λ type_name. typed_at modifiers type_name.0 type_name.1) (Some x) other.1) [
            | inr void ↦ method_sound modifiers [] None whole void.0 x
                (before ∙ ap (onto_all onto_modifier modifiers) (word_reads words.Void ks void.0 void.1)) void.2
            | inl typed ↦
                let t = bind_some (type_at ks) _ x typed.1 in
                typed_sound modifiers t.0.0 whole t.0.1 x
                (before ∙ ap (onto_all onto_modifier modifiers) (type_sound ks t.0 t.1)) t.2
          ]
    ]

locked_member_sound :
    (modifiers : List Modifier) (locked : List (List Modifier)) (whole ks : List Lexeme) (x : Member × List Lexeme) →
    whole ≡ onto_all onto_modifier modifiers (onto_all onto_locked locked ks) →
    locked_member_at modifiers locked ks ≡ Some x →
    IsRead whole x
locked_member_sound modifiers locked whole ks x before e =
    let typed : Option (Member × List Lexeme) =
    type_at ks >>= λ type_name. if starts_call type_name.1 then method_at modifiers locked (Some type_name.0)
    type_name.1 else None in
    elim (either (starts_call ks) None
    (given (after_word words.Void ks) (λ rest. method_at modifiers locked None rest) typed) (Some x) e) [
      | inl refused ↦ absurd (let none = refused.1 in cc none)
      | inr other ↦
          elim (given_cases (after_word words.Void ks) (λ rest. method_at modifiers locked None rest) typed (Some x)
          other.1) [
            | inr void ↦ method_sound modifiers locked None whole void.0 x
                (before ∙ ap (λ (r : List Lexeme). onto_all onto_modifier modifiers (onto_all onto_locked locked r))
                (word_reads words.Void ks void.0 void.1)) void.2
            | inl is ↦
                let t = bind_some (type_at ks) _ x is.1 in
                elim (either (starts_call t.0.1) (method_at modifiers locked (Some t.0.0) t.0.1) None (Some x) t.2) [
                  | inl method ↦
                      method_sound modifiers locked (Some t.0.0) whole t.0.1 x
                      (before ∙ ap (λ (r : List Lexeme). onto_all onto_modifier modifiers
                      (onto_all onto_locked locked r)) (type_sound ks t.0 t.1)) method.1
                  | inr refused ↦ absurd (let none = refused.1 in cc none)
                ]
          ]
    ]

locked_sound : SoundItem onto_locked Anything locked_at
locked_sound ks x e =
    let w = bind_some (after_word words.Synchronized ks) _ x e in
    (word_reads words.Synchronized ks w.0 w.1 ∙ ap (cons (Reserved words.Synchronized)) (modifiers_sound w.0 x w.2), tt)

-- a `synchronized` takes a token
pub locked_shrinks : Shrinks locked_at
locked_shrinks ks x e = omega (arith, ap length (locked_sound ks x e).0, locked_longer x.0 x.1)

none_in : (ls : List (List Modifier)) → some_in ls ≡ false → ls ≡ []
none_in [] e = refl
none_in (l ∷ ls) e = absurd cc

pub member_sound : SoundItem onto_member WellFormedMember member_at
member_sound ks x e =
    let m = bind_some (modifiers_at ks) _ x e in
    let l = bind_some (all_locked_at m.0.1) _ x m.2 in
    let took = (many_sound onto_locked Anything starts_locked locked_at locked_sound m.0.1 l.0 l.1).0 in
    let before : ks ≡ onto_all onto_modifier m.0.0 (onto_all onto_locked l.0.0 l.0.1) =
    modifiers_sound ks m.0 m.1 ∙ ap (onto_all onto_modifier m.0.0) took.spelled in
    elim (either (some_in l.0.0) (locked_member_at m.0.0 l.0.0 l.0.1) (unmodified_at m.0.0 l.0.1) (Some x) l.2) [
      | inl locked ↦ locked_member_sound m.0.0 l.0.0 ks l.0.1 x before locked.1
      | inr plain ↦
          unmodified_sound m.0.0 ks l.0.1 x
          (before ∙ ap (λ (ls : List (List Modifier)). onto_all onto_modifier m.0.0 (onto_all onto_locked ls l.0.1))
          (none_in l.0.0 plain.0)) plain.1
    ]

-- ---- classes

-- a class that is well formed
abbrev pub FormedClass : ClassTree → Type 0
FormedClass c = AllByRecursion WellFormedMember c.members

pub class_sound : SoundItem onto_class_tree FormedClass class_at
class_sound ks x e =
    let m = bind_some (modifiers_at ks) _ x e in
    let w = bind_some (after_word words.Class m.0.1) _ x m.2 in
    let n = bind_some (name_at w.0) _ x w.2 in
    let o = bind_some (after_sign signs.OpenBrace n.0.1) _ x n.2 in
    let l = bind_some (many_at (not_yet signs.CloseBrace) member_at o.0) _ x o.2 in
    let c = bind_some (after_sign signs.CloseBrace l.0.1) _ x l.2 in
    let took = (many_sound onto_member WellFormedMember (not_yet signs.CloseBrace) member_at member_sound o.0 l.0 l.1).0
    in
    subst (λ (y : ClassTree × List Lexeme). (ks ≡ onto_class_tree y.0 y.1) × FormedClass y.0)
    (some_is (class_of m.0.0 n.0.0 l.0.0, c.0) x c.2) (
      modifiers_sound ks m.0 m.1 ∙
          ap (onto_all onto_modifier m.0.0) (word_reads words.Class m.0.1 w.0 w.1 ∙
          ap (cons (Reserved words.Class)) (name_reads w.0 n.0 n.1 ∙ ap (cons (Named n.0.0))
          (sign_reads signs.OpenBrace n.0.1 o.0 o.1 ∙
          ap (cons (Marked signs.OpenBrace))
          (took.spelled ∙ ap (onto_all onto_member l.0.0) (sign_reads signs.CloseBrace l.0.1 c.0 c.1))))),
      took.each,
    )

-- ---- packages and imports

pub part_sound : SoundItem onto_part Anything part_at
part_sound ks x e =
    let d = bind_some (after_sign signs.Dot ks) _ x e in
    (sign_reads signs.Dot ks d.0 d.1 ∙ ap (cons (Marked signs.Dot)) (name_reads d.0 x d.2), tt)

dotted_sound : (goes : List Lexeme → Bool) (ks : List Lexeme) (x : Dotted × List Lexeme) →
    dotted_at goes ks ≡ Some x →
    ks ≡ onto_dotted x.0 x.1
dotted_sound goes ks x e =
    let n = bind_some (name_at ks) _ x e in
    let m = bind_some (many_at goes part_at n.0.1) _ x n.2 in
    let took = (many_sound onto_part Anything goes part_at part_sound n.0.1 m.0 m.1).0 in
    name_reads ks n.0 n.1 ∙ ap (cons (Named n.0.0)) took.spelled ∙
    ap (λ (y : Dotted × List Lexeme). onto_dotted y.0 y.1) (some_is (dotted_of n.0.0 m.0.0, m.0.1) x m.2)

-- an import that is read is spelled by its tokens
pub import_sound : SoundItem onto_import Anything import_at
import_sound ks x e =
    let w = bind_some (after_word words.Import ks) _ x e in
    let d = bind_some (dotted_at more_path w.0) _ x w.2 in
    let head : ks ≡ Reserved words.Import ∷ onto_dotted d.0.0 d.0.1 = word_reads words.Import ks w.0 w.1 ∙
    ap (cons (Reserved words.Import)) (dotted_sound more_path w.0 d.0 d.1) in
    elim (given_cases (after_star d.0.1) _
    (after_sign signs.Semicolon d.0.1 >>= λ end. Some (import_of d.0.0 false, end)) (Some x) d.2) [
      | inr star ↦
          let dot = bind_some (after_sign signs.Dot d.0.1) _ star.0 star.1 in
          let s = bind_some (after_sign signs.Semicolon star.0) _ x star.2 in (
            head ∙ ap (λ (r : List Lexeme). Reserved words.Import ∷ onto_dotted d.0.0 r)
                (sign_reads signs.Dot d.0.1 dot.0 dot.1 ∙
                ap (cons (Marked signs.Dot)) (sign_reads signs.Star dot.0 star.0 dot.2 ∙
                ap (cons (Marked signs.Star)) (sign_reads signs.Semicolon star.0 s.0 s.1)))
                ∙ ap (λ (y : Import × List Lexeme). onto_import y.0 y.1) (some_is (import_of d.0.0 true, s.0) x s.2),
            tt,
          )
      | inl one ↦
          let s = bind_some (after_sign signs.Semicolon d.0.1) _ x one.1 in (
            head ∙ ap (λ (r : List Lexeme). Reserved words.Import ∷ onto_dotted d.0.0 r)
                (sign_reads signs.Semicolon d.0.1 s.0 s.1)
                ∙ ap (λ (y : Import × List Lexeme). onto_import y.0 y.1) (some_is (import_of d.0.0 false, s.0) x s.2),
            tt,
          )
    ]

-- a package that is read is spelled by its tokens
pub header_sound : (ks : List Lexeme) (x : Option Dotted × List Lexeme) →
    header_at ks ≡ Some x →
    ks ≡ onto_header x.0 x.1
header_sound ks x e =
    elim (given_cases (after_word words.Package ks) _ (Some (None, ks)) (Some x) e) [
      | inl none ↦ ap (λ (y : Option Dotted × List Lexeme). onto_header y.0 y.1) (some_is (None, ks) x none.1)
      | inr some ↦
          let p = bind_some (package_at some.0) _ x some.2 in
          let d = bind_some (dotted_at (not_yet signs.Semicolon) some.0) _ p.0 p.1 in
          let s = bind_some (after_sign signs.Semicolon d.0.1) _ p.0 d.2 in
          word_reads words.Package ks some.0 some.1 ∙
          ap (cons (Reserved words.Package)) (dotted_sound (not_yet signs.Semicolon) some.0 d.0 d.1 ∙
          ap (onto_dotted d.0.0) (sign_reads signs.Semicolon d.0.1 s.0 s.1)
          ∙ ap (λ (y : Dotted × List Lexeme). onto_dotted y.0 (Marked signs.Semicolon ∷ y.1))
          (some_is (d.0.0, s.0) p.0 s.2))
          ∙ ap (λ (y : Option Dotted × List Lexeme). onto_header y.0 y.1) (some_is (Some p.0.0, p.0.1) x p.2)
    ]

nothing_left : (ks : List Lexeme) → is_left ks ≡ false → ks ≡ []
nothing_left [] h = refl
nothing_left (k ∷ ks) h = absurd cc

-- a file that is read is spelled by its tokens, and well formed
pub file_sound : (ks : List Lexeme) (f : File) → file_at ks ≡ Some f → (ks ≡ onto_file f []) × WellFormedFile f
unfolding file_at
file_sound ks f e =
    let h = bind_some (header_at ks) _ f e in
    let i = bind_some (many_at starts_import import_at h.0.1) _ f h.2 in
    let c = bind_some (many_at is_left class_at i.0.1) _ f i.2 in
    let imports = (many_sound onto_import Anything starts_import import_at import_sound h.0.1 i.0 i.1).0 in
    let classes = many_sound onto_class_tree FormedClass is_left class_at class_sound i.0.1 c.0 c.1 in
    subst (λ (g : File). (ks ≡ onto_file g []) × WellFormedFile g) (some_is (file_from h.0.0 i.0.0 c.0.0) f c.2) (
      header_sound ks h.0 h.1 ∙
          ap (onto_header h.0.0)
          (imports.spelled ∙
          ap (onto_all onto_import i.0.0)
          (classes.0.spelled ∙ ap (onto_all onto_class_tree c.0.0) (nothing_left c.0.1 classes.1))),
      classes.0.each,
    )

-- ---- each takes a token at least

-- a parameter takes a token
pub parameter_shrinks : Shrinks parameter_at
parameter_shrinks ks x e = omega (arith, ap length (parameter_sound ks x e).0, parameter_longer x.0 x.1)

-- a member takes a token
pub member_shrinks : Shrinks member_at
member_shrinks ks x e = omega (arith, ap length (member_sound ks x e).0, member_longer x.0 x.1)

-- a class takes a token
pub class_shrinks : Shrinks class_at
class_shrinks ks x e = omega (arith, ap length (class_sound ks x e).0, class_longer x.0 x.1)

-- a part of a dotted name takes a token
pub part_shrinks : Shrinks part_at
part_shrinks ks x e = omega (arith, ap length (part_sound ks x e).0, part_longer x.0 x.1)

-- an import takes a token
pub import_shrinks : Shrinks import_at
import_shrinks ks x e = omega (arith, ap length (import_sound ks x e).0, import_longer x.0 x.1)
