-- Statements: what is well-formed is read again.
use Rattle.std.proofs.Common.{◌≡◌, ℕ, zero, suc, ◌+◌, ◌≤◌, true, false, List, [], ◌∷◌, Option, Some, None, refl, sym}
use Rattle.std.proofs.Common.{ap, ◌∙◌, arith}
use Rattle.std.specs.List.{AllByRecursion}
use Rattle.ls_lexer.specs.declared.sign.Sign.TheVariants as signs
use Rattle.ls_lexer.specs.declared.word.Word.TheVariants as words
use Rattle.ls_lexer.specs.Lexemes.{Lexeme, Reserved, Marked}
use Rattle.ls_tree.specs.Trees.{Text, Expression, Declaration, Simple, Statement, Block, Empty, If, IfElse, While, For}
use Rattle.ls_tree.specs.Trees.{Break, Continue, Return, Try, Perform, Synchronized, Assign, Add, Count, Evaluate}
use Rattle.ls_tree.specs.Trees.{Opening, Declares, Performs, Items, NoItem, Do, Declare, Piece, Doing, Declaring}
use Rattle.ls_tree.specs.Trees.{collected}
use Rattle.ls_tree.specs.WellFormed.{WellFormed, is_post, expression_height, value_height, declaration_height}
use Rattle.ls_tree.specs.WellFormed.{simple_height, simples_height, opening_height, statement_height, items_height}
use Rattle.ls_tree.specs.WellFormed.{ends_open, WellFormedValue, WellFormedDeclaration, WellFormedSimple}
use Rattle.ls_tree.specs.WellFormed.{WellFormedSimples, WellFormedOpening, WellFormedStatement, WellFormedItems}
use Rattle.ls_parser_tokens.specs.Reading.{Reader, after_word, not_yet, many_at}
use Rattle.ls_parser_expressions.specs.ReadingExpressions.{expression_at, post_at}
use Rattle.ls_parser_statements.specs.ReadingStatements.{piece_at, braces_at, condition_at, jump_at, value_at}
use Rattle.ls_parser_statements.specs.ReadingStatements.{simple_from, simple_at, opening_at, head_in, other_at}
use Rattle.ls_parser_statements.specs.ReadingStatements.{FirstOther, first_of, local_at, statement_of, nested_at}
use Rattle.ls_parser_statements.specs.ReadingStatements.{statement_at, block_at}
use Rattle.ls_parser_expressions.proofs.Onto.{onto}
use Rattle.ls_parser_expressions.proofs.Lists.{onto_all, many_from_complete}
use Rattle.ls_parser_declarations.proofs.OntoDeclarations.{onto_declarator, onto_next_declarator, onto_declaration}
use Rattle.ls_parser_statements.proofs.OntoStatements.{onto_label, onto_value, onto_condition, onto_simple}
use Rattle.ls_parser_statements.proofs.OntoStatements.{onto_next_simple, onto_simples, onto_opening, onto_head}
use Rattle.ls_parser_statements.proofs.OntoStatements.{onto_statement, onto_items, onto_block, onto_piece}
use Rattle.ls_parser_statements.proofs.OntoStatements.{onto_collected, piece_longer}
use Rattle.ls_parser_statements.proofs.HeadsRead.{FormedPiece}
use Rattle.ls_parser_statements.proofs.SimplesAgain.{called, simple_opens, simple_label, simple_semicolon, from_again}
use Rattle.ls_parser_statements.proofs.SimplesAgain.{simple_pos, semicolon_ends, close_ends, others_follow}
use Rattle.ls_parser_statements.proofs.SimplesAgain.{simples_complete}
use Rattle.ls_parser_expressions.proofs.ExpressionEdges.{follow_close, follow_semicolon, post_head, no_semicolon}
use Rattle.ls_parser_expressions.proofs.ExpressionsAgain.{expression_complete}
use Rattle.ls_parser_statements.proofs.DeclarationsAgain.{declaration_complete, declaration_first}
use Rattle.ls_parser_statements.proofs.StatementBeginnings.{statement_opens, modifiers_brace, statement_else}
use Rattle.ls_parser_statements.proofs.StatementBeginnings.{modifiers_else}

-- ---- statements

abbrev pub CompleteStatement : Reader Statement → ℕ → Type 0
CompleteStatement reader limit = (t : Statement) (rest : List Lexeme) → WellFormedStatement t →
    statement_height t ≤ limit → (ends_open t ≡ true → after_word words.Else rest ≡ None) →
    reader (onto_statement t rest) ≡ Some (t, rest)

abbrev pub CompleteBlock : Reader Items → ℕ → Type 0
CompleteBlock reader limit = (items : Items) (rest : List Lexeme) → WellFormedItems items →
    items_height items + 1 ≤ limit → reader (onto_block items rest) ≡ Some (items, rest)

abbrev uncollected : Items → List Piece
uncollected NoItem = []
uncollected (Do a items) = Doing a ∷ uncollected items
uncollected (Declare d items) = Declaring d ∷ uncollected items

collected_again : (items : Items) → collected (uncollected items) ≡ items
collected_again NoItem = refl
collected_again (Do a items) = ap (Do a) (collected_again items)
collected_again (Declare d items) = ap (Declare d) (collected_again items)

pieces_formed : (limit : ℕ) (items : Items) →
    WellFormedItems items →
    items_height items ≤ limit →
    AllByRecursion (FormedPiece limit) (uncollected items)
pieces_formed limit NoItem formed fits = tt
pieces_formed limit (Do a items) formed fits =
    ((formed.0, omega arith), pieces_formed limit items formed.1 (omega arith))
pieces_formed limit (Declare d items) formed fits =
    ((formed.0, omega arith), pieces_formed limit items formed.1 (omega arith))

local_complete : (limit : ℕ) (d : Declaration) (rest : List Lexeme) →
    WellFormedDeclaration d →
    declaration_height d ≤ limit →
    local_at limit (onto_declaration d rest) ≡ Some (d, rest)
local_complete zero d rest formed fits = absurd (omega arith)
local_complete (suc limit) d rest formed fits = declaration_complete limit d rest formed (omega arith)

module _ (limit : ℕ) (statement : Reader Statement) (complete : CompleteStatement statement limit) where
  abbrev NoElse : List Lexeme → Type 0
  NoElse ks = after_word words.Else ks ≡ None

  piece_complete : (p : Piece) (rest : List Lexeme) →
      FormedPiece limit p →
      NoElse rest →
      piece_at (local_at limit) statement (onto_piece p rest) ≡ Some (p, rest)
  piece_complete (Doing a) rest formed no_else =
      let o = statement_opens a rest formed.0 in
      rw (o.declares, complete a rest formed.0 formed.1 (λ h. no_else)) refl
  piece_complete (Declaring d) rest formed no_else =
      rw (declaration_first d rest, local_complete limit d rest formed.0 formed.1) refl

  piece_first : (p : Piece) (rest : List Lexeme) →
      FormedPiece limit p →
      (not_yet signs.CloseBrace (onto_piece p rest) ≡ true) × NoElse (onto_piece p rest)
  piece_first (Doing a) rest formed =
      let o = statement_opens a rest formed.0 in
      (rw o.brace refl, statement_else a rest formed.0)
  piece_first (Declaring d) rest formed =
      let ks : List Lexeme =
      onto_declarator d.first (onto_all onto_next_declarator d.more (Marked signs.Semicolon ∷ rest)) in
      (rw (modifiers_brace d.modifiers d.type_name ks) refl, modifiers_else d.modifiers d.type_name ks)

  braces_complete : (items : Items) (rest : List Lexeme) →
      WellFormedItems items →
      items_height items ≤ limit →
      braces_at (piece_at (local_at limit) statement) (onto_block items rest) ≡ Some (items, rest)
  braces_complete items rest formed fits =
      let is : onto_items items (Marked signs.CloseBrace ∷ rest) ≡
      onto_all onto_piece (uncollected items) (Marked signs.CloseBrace ∷ rest) =
      ap (λ (i : Items). onto_items i (Marked signs.CloseBrace ∷ rest)) (sym (collected_again items)) ∙
      onto_collected (uncollected items) (Marked signs.CloseBrace ∷ rest) in
      let all : many_at (not_yet signs.CloseBrace) (piece_at (local_at limit) statement)
      (onto_items items (Marked signs.CloseBrace ∷ rest)) ≡
      Some (uncollected items, Marked signs.CloseBrace ∷ rest) =
      ap (many_at (not_yet signs.CloseBrace) (piece_at (local_at limit) statement)) is
      ∙ many_from_complete onto_piece (FormedPiece limit) (not_yet signs.CloseBrace)
      (piece_at (local_at limit) statement) NoElse piece_complete piece_first piece_longer
      [] (uncollected items) (Marked signs.CloseBrace ∷ rest) (pieces_formed limit items formed fits) refl refl in
      rw all (ap (λ (i : Items). Some (i, rest)) (collected_again items))

  condition_again : (condition : Expression) (rest : List Lexeme) →
      WellFormed false condition →
      expression_height condition ≤ limit →
      condition_at (expression_at limit) (onto_condition condition rest) ≡ Some (condition, rest)
  condition_again condition rest formed fits =
      rw (expression_complete limit condition (Marked signs.CloseParen ∷ rest) formed fits (follow_close 6 rest)) refl

  jump_again : (label : Option Text) (rest : List Lexeme) →
      jump_at (onto_label label (Marked signs.Semicolon ∷ rest)) ≡ Some (label, rest)
  jump_again None rest = refl
  jump_again (Some name) rest = refl

  value_again : (value : Option Expression) (rest : List Lexeme) →
      WellFormedValue value →
      value_height value ≤ limit →
      value_at (expression_at limit) (onto_value value (Marked signs.Semicolon ∷ rest)) ≡ Some (value, rest)
  value_again None rest formed fits = refl
  value_again (Some value) rest formed fits =
      rw (
        no_semicolon value (Marked signs.Semicolon ∷ rest),
        expression_complete limit value (Marked signs.Semicolon ∷ rest) formed fits (follow_semicolon 6 rest),
      ) refl

  opening_again : (o : Opening) (rest : List Lexeme) →
      WellFormedOpening o →
      opening_height o ≤ limit →
      opening_at (local_at limit) (simple_at limit) (onto_opening o rest) ≡ Some (o, rest)
  opening_again (Declares d) rest formed fits =
      rw (declaration_first d rest, local_complete limit d rest formed fits) refl
  opening_again (Performs []) rest formed fits = refl
  opening_again (Performs (s ∷ ss)) rest formed fits =
      let o = simple_opens s (onto_all onto_next_simple ss (Marked signs.Semicolon ∷ rest)) formed.0
      (others_follow signs.Semicolon semicolon_ends ss rest) in
      rw (o.declares, simples_complete limit signs.Semicolon semicolon_ends (s ∷ ss) rest formed fits) refl

  head_again : (o : Opening) (c : Option Expression) (us : List Simple) (rest : List Lexeme) →
      WellFormedOpening o →
      WellFormedValue c →
      WellFormedSimples us →
      opening_height o ≤ limit → value_height c ≤ limit → simples_height us ≤ limit →
      head_in limit (onto_head o c us rest) ≡ Some ((o, c, us), rest)
  head_again o c us rest formed formed' formed'' fits fits' fits'' =
      let ks : List Lexeme = onto_simples us (Marked signs.CloseParen ∷ rest) in
      rw (
        opening_again o (onto_value c (Marked signs.Semicolon ∷ ks)) formed fits,
        value_again c ks formed' fits',
        simples_complete limit signs.CloseParen close_ends us rest formed'' fits'',
      ) refl

  module _ (block : Reader Items) where
    -- a statement that begins by an expression
    by_expression : (t : Expression) (rest : List Lexeme) → is_post t ≡ true → WellFormed false t →
        statement_of limit statement block (onto t rest) ≡
        other_at (simple_from (post_at limit false) (expression_at limit)) (expression_at limit) (head_in limit)
        statement (onto t rest)
    by_expression t rest post formed =
        let h = post_head (λ k. first_of k ≡ FirstOther)
        (record {
          number = λ text. refl;
          name = λ text. refl;
          yes' = refl;
          no' = refl;
          null = refl;
          this = refl;
          new =
              refl;
          paren = refl;
        }) false t rest post formed in
        ap (statement_of limit statement block) h.2 ∙ rw h.3 refl ∙
        ap (other_at (simple_from (post_at limit false) (expression_at limit)) (expression_at limit) (head_in limit)
        statement) (sym h.2)

    by_simple : (s : Simple) (rest : List Lexeme) → WellFormedSimple s →
        statement_of limit statement block (onto_simple s rest) ≡
        other_at (simple_from (post_at limit false) (expression_at limit)) (expression_at limit) (head_in limit)
        statement (onto_simple s rest)
    by_simple (Assign target value) rest formed =
        by_expression target (Marked signs.Assign ∷ onto value rest) formed.0 formed.1
    by_simple (Add target value) rest formed =
        by_expression target (Marked signs.PlusAssign ∷ onto value rest) formed.0 formed.1
    by_simple (Count true true target) rest formed = refl
    by_simple (Count false true target) rest formed = refl
    by_simple (Count true false target) rest formed =
        by_expression target (Marked signs.Increment ∷ rest) formed.0 formed.1
    by_simple (Count false false target) rest formed =
        by_expression target (Marked signs.Decrement ∷ rest) formed.0 formed.1
    by_simple (Evaluate value) rest formed = by_expression value rest (called value formed.0) formed.1

    perform_again : (s : Simple) (rest : List Lexeme) →
        WellFormedSimple s →
        simple_height s ≤ suc limit →
        statement_of limit statement block (onto_statement (Perform s) rest) ≡ Some (Perform s, rest)
    perform_again s rest formed fits =
        let ks : List Lexeme = Marked signs.Semicolon ∷ rest in
        by_simple s ks formed ∙
        rw (
          simple_label s ks formed (simple_semicolon rest),
          from_again limit s ks formed fits (simple_semicolon rest),
        ) refl

    for_again :
        (label : Option Text) (o : Opening) (c : Option Expression) (us : List Simple) (body : Statement)
        (rest : List Lexeme) →
        WellFormedStatement (For label o c us body) →
        statement_height (For label o c us body) ≤ suc limit →
        (ends_open body ≡ true → after_word words.Else rest ≡ None) →
        statement_of limit statement block (onto_statement (For label o c us body) rest) ≡
        Some (For label o c us body, rest)
    for_again None o c us body rest formed fits stops =
        rw (
          head_again o c us (onto_statement body rest) formed.0 formed.1 formed.2 (omega arith) (omega arith)
              (omega arith),
          complete body rest formed.3 (omega arith) stops,
        ) refl
    for_again (Some name) o c us body rest formed fits stops =
        rw (
          head_again o c us (onto_statement body rest) formed.0 formed.1 formed.2 (omega arith) (omega arith)
              (omega arith),
          complete body rest formed.3 (omega arith) stops,
        ) refl

    while_again : (label : Option Text) (condition : Expression) (body : Statement) (rest : List Lexeme) →
        WellFormed false condition →
        WellFormedStatement body →
        expression_height condition ≤ limit →
        statement_height body ≤ limit →
        (ends_open body ≡ true → after_word words.Else rest ≡ None)
        → statement_of limit statement block (onto_statement (While label condition body) rest) ≡
        Some (While label condition body, rest)
    while_again None condition body rest formed formed' fits fits' stops =
        rw (condition_again condition (onto_statement body rest) formed fits, complete body rest formed' fits' stops)
        refl
    while_again (Some name) condition body rest formed formed' fits fits' stops =
        rw (condition_again condition (onto_statement body rest) formed fits, complete body rest formed' fits' stops)
        refl

    statement_of_complete : CompleteBlock block limit →
        CompleteStatement (statement_of limit statement block) (suc limit)
    statement_of_complete blocks (Block items) rest formed fits stops =
        rw (braces_complete items rest formed (omega arith)) refl
    statement_of_complete blocks Empty rest formed fits stops = refl
    statement_of_complete blocks (If condition first) rest formed fits stops =
        rw (
          condition_again condition (onto_statement first rest) formed.0 (omega arith),
          complete first rest formed.1 (omega arith) (λ h. stops refl),
          stops refl,
        ) refl
    statement_of_complete blocks (IfElse condition first second) rest formed fits stops =
        rw (
          condition_again condition (onto_statement first (Reserved words.Else ∷ onto_statement second rest)) formed.0
              (omega arith),
          complete first (Reserved words.Else ∷ onto_statement second rest) formed.1 (omega arith)
              (λ h. absurd (let closed = formed.2 in cc (h, closed))),
          complete second rest formed.3 (omega arith) stops,
        ) refl
    statement_of_complete blocks (While label condition body) rest formed fits stops =
        while_again label condition body rest formed.0 formed.1 (omega arith) (omega arith) stops
    statement_of_complete blocks (For label o c us body) rest formed fits stops =
        for_again label o c us body rest formed fits stops
    statement_of_complete blocks (Break label) rest formed fits stops = rw (jump_again label rest) refl
    statement_of_complete blocks (Continue label) rest formed fits stops = rw (jump_again label rest) refl
    statement_of_complete blocks (Return value) rest formed fits stops =
        rw (value_again value rest formed (omega arith)) refl
    statement_of_complete blocks (Try body finally) rest formed fits stops =
        rw (
          blocks body (Reserved words.Finally ∷ onto_block finally rest) formed.0 (omega arith),
          blocks finally rest formed.1 (omega arith),
        ) refl
    statement_of_complete blocks (Synchronized target body) rest formed fits stops =
        rw (
          condition_again target (onto_block body rest) formed.0 (omega arith),
          blocks body rest formed.1 (omega arith),
        ) refl
    statement_of_complete blocks (Perform simple) rest formed fits stops = perform_again simple rest formed fits

statement_pos : (t : Statement) → 1 ≤ statement_height t
statement_pos (Block items) = omega arith
statement_pos Empty = omega arith
statement_pos (If condition first) = omega arith
statement_pos (IfElse condition first second) = omega arith
statement_pos (While label condition body) = omega arith
statement_pos (For label opening condition updates body) = omega arith
statement_pos (Break label) = omega arith
statement_pos (Continue label) = omega arith
statement_pos (Return value) = omega arith
statement_pos (Try body finally) = omega arith
statement_pos (Synchronized target body) = omega arith
statement_pos (Perform simple) = simple_pos simple

pub nested_complete : (limit : ℕ) → CompleteStatement (statement_at limit) limit × CompleteBlock (block_at limit) limit
unfolding nested_at
nested_complete zero = (
  λ t rest formed fits stops. absurd (omega (arith, statement_pos t)),
  λ items rest formed fits. absurd (omega arith),
)
nested_complete (suc limit) =
    let inner = nested_complete limit in (
      statement_of_complete limit (statement_at limit) inner.0 (block_at limit) inner.1,
      λ items rest formed fits. braces_complete limit (statement_at limit) inner.0 items rest formed (omega arith),
    )

-- a block that is spelled is read again
pub block_complete : (limit : ℕ) → CompleteBlock (block_at limit) limit
block_complete limit = (nested_complete limit).1
