-- What the reader's state stands for: the tokens so far are those of the whole declarations, of what has begun on the stack,
-- and of what was read last.
use Rattle.std.proofs.Common.{◌≡◌, ℕ, ◌+◌, ◌-◌, ◌≤◌, max, List, [], ◌∷◌, ◌++◌, length, Bool, true, false, Some, None}
use Rattle.ny_syntax.specs.declared.token.Token.{Token}
use Rattle.ny_syntax.specs.declared.token.TokenKind.{TokenKind}
use Rattle.ny_syntax.specs.declared.token.TokenKind.TheVariants as kinds
use Rattle.ny_syntax.specs.declared.token.Mark.TheVariants as marks
use Rattle.ny_syntax.specs.declared.token.Word.TheVariants as words
use Rattle.ny_syntax.specs.declared.tree.Expr.{Expr}
use Rattle.ny_syntax.specs.declared.tree.Bind.{Bind}
use Rattle.ny_syntax.specs.declared.tree.Form.TheVariants as forms
use Rattle.ny_syntax.specs.declared.tree.Param.{Param}
use Rattle.ny_syntax.specs.declared.tree.Decl.{Decl}
use Rattle.ny_syntax.specs.Levels.{level_of, left_least, right_least, prefix_level, operand_level, is_prefix}
use Rattle.ny_syntax.specs.Grammar
use Rattle.ny_syntax.specs.Grammar.{Parse, Arguments, Bindings, Params, Declaration, tokens, argument_tokens, binding_tokens, param_tokens, declarations_tokens, height, highest_argument, highest_binding, declarations_height, height_limit, level, IsBlock, IsParse, AreArguments, AreBindings, AreParams, AreDeclarations, tree_of, trees_of, binds_of, params_of, declarations_of, expr}
use Rattle.ny_parse.specs.declared.frame.Label.{Label}
use Rattle.ny_parse.specs.declared.frame.Measured.{Measured}
use Rattle.ny_parse.specs.declared.frame.Frame.{Frame}
use Rattle.ny_parse.specs.declared.frame.Frame.TheVariants as frames
use Rattle.ny_parse.specs.declared.state.State.{State}
use Rattle.ny_parse.specs.declared.state.State.TheVariants as states
use Rattle.ny_parse.specs.Nodes.{label_of}
use Rattle.ny_parse.specs.Reading.{Next}

-- the reader knows this of a parse tree
abbrev pub Reads : List ℕ → Parse → Measured → Type 0
Reads text p x = IsParse p × (tree_of text p ≡ x.expr) × (height p + x.spare ≡ height_limit) × (level p ≡ x.level)

abbrev pub IsLabel : List ℕ → Token → Label → Type 0
IsLabel text t l = (t.kind ≡ kinds.Name) × (label_of text t ≡ l)

-- arguments, each with a comma: what stands before further ones
abbrev pub IsBefore : List ℕ → List Expr → ℕ → List Token → Type 0
IsBefore text es spare used = (build : Arguments → Arguments) × (spare ≤ height_limit)
    × ((more : Arguments) → AreArguments more → AreArguments (build more))
    × ((more : Arguments) → argument_tokens (build more) ≡ used ++ argument_tokens more)
    × ((more : Arguments) → trees_of text (build more) ≡ es ++ trees_of text more)
    × ((more : Arguments) → highest_argument (build more) ≡ max (height_limit - spare) (highest_argument more))

-- binds, each with a comma
abbrev pub IsBound : List ℕ → List Bind → ℕ → List Token → Type 0
IsBound text bs spare used = (build : Bindings → Bindings) × (spare ≤ height_limit)
    × ((more : Bindings) → AreBindings more → AreBindings (build more))
    × ((more : Bindings) → binding_tokens (build more) ≡ used ++ binding_tokens more)
    × ((more : Bindings) → binds_of text (build more) ≡ bs ++ binds_of text more)
    × ((more : Bindings) → highest_binding (build more) ≡ max (height_limit - spare) (highest_binding more))

-- a block up to and with `return`
abbrev pub IsOpened : List ℕ → Token → List Bind → ℕ → List Token → Type 0
IsOpened text b bs spare used = (build : Parse → Token → Parse) × (spare ≤ height_limit)
    × ((p : Parse) (e : Token) → IsParse p → e.kind ≡ kinds.Reserved words.End → IsParse (build p e))
    × ((p : Parse) (e : Token) → IsBlock (build p e))
    × ((p : Parse) (e : Token) → tokens (build p e) ≡ used ++ (tokens p ++ e ∷ []))
    × ((p : Parse) (e : Token) → tree_of text (build p e) ≡ expr b.from (forms.Block bs (tree_of text p)))
    × ((p : Parse) (e : Token) → height (build p e) ≡ 1 + max (height_limit - spare) (height p))
    × ((p : Parse) (e : Token) → level (build p e) ≡ operand_level)

-- whole declarations
abbrev pub HasDecls : List ℕ → List Decl → List Token → Type 0
HasDecls text ds used = (all : List Declaration) × AreDeclarations all × (declarations_height all ≤ height_limit)
    × (declarations_tokens all ≡ used) × (declarations_of text all ≡ ds)

-- and `define function NAME (`
abbrev pub HasName : List ℕ → List Decl → Label → List Token → Type 0
HasName text ds l used = (before : List Token) × (d : Token) × (f : Token) × (n : Token) × (o : Token) × HasDecls text ds before
    × (d.kind ≡ kinds.Reserved words.Define) × (f.kind ≡ kinds.Reserved words.Function) × IsLabel text n l × (o.kind ≡ kinds.Sign marks.Open)
    × (used ≡ before ++ (d ∷ f ∷ n ∷ o ∷ []))

abbrev pub HasParams : List ℕ → List Decl → Label → List Param → List Token → Type 0
HasParams text ds l ps used = (before : List Token) × (all : Params) × HasName text ds l before × AreParams all × (params_of text all ≡ ps) × (used ≡ before ++ param_tokens all)

-- and the closing bracket
abbrev pub HasHead : List ℕ → List Decl → Label → List Param → List Token → Type 0
HasHead text ds l ps used = (before : List Token) × (c : Token) × HasParams text ds l ps before × (c.kind ≡ kinds.Sign marks.Close) × (used ≡ before ++ c ∷ [])

-- how tightly an expression must bind to be the next part of what has begun
abbrev pub least : List Frame → ℕ
least (frames.Right a op ∷ k) = right_least op.kind
least (frames.Prefix m ∷ k) = prefix_level
least _ = 0

-- any expression may be that part, and not a block alone
abbrev pub TakesAny : List Frame → Type 0
TakesAny (frames.BlockFunction l ps ∷ k) = ⊥
TakesAny _ = Unit {0}

abbrev pub is_over : TokenKind → Bool
is_over (kinds.Sign marks.Over) = true
is_over _ = false

-- these tokens are those of whole declarations and of what has begun
abbrev pub Holds : List ℕ → List Decl → List Frame → List Token → Type 0
Holds text ds [] used = ⊥
Holds text ds (frames.Variable l ∷ k) used = (k ≡ []) × (before : List Token) × (d : Token) × (v : Token) × (n : Token) × (e : Token) × HasDecls text ds before
    × (d.kind ≡ kinds.Reserved words.Define) × (v.kind ≡ kinds.Reserved words.Variable) × IsLabel text n l × (e.kind ≡ kinds.Sign marks.Equal)
    × (used ≡ before ++ (d ∷ v ∷ n ∷ e ∷ []))
Holds text ds (frames.Function l ps ∷ k) used = (k ≡ []) × (before : List Token) × (r : Token) × HasHead text ds l ps before × (r.kind ≡ kinds.Reserved words.Return) × (used ≡ before ++ r ∷ [])
Holds text ds (frames.BlockFunction l ps ∷ k) used = (k ≡ []) × HasHead text ds l ps used
Holds text ds (frames.Play t ∷ k) used = (k ≡ []) × (before : List Token) × HasDecls text ds before × (t.kind ≡ kinds.Reserved words.Play) × (used ≡ before ++ t ∷ [])
Holds text ds (frames.Group ∷ k) used = (before : List Token) × (o : Token) × Holds text ds k before × TakesAny k × (o.kind ≡ kinds.Sign marks.Open) × (used ≡ before ++ o ∷ [])
Holds text ds (frames.Prefix m ∷ k) used = (before : List Token) × Holds text ds k before × TakesAny k × (is_prefix m.kind ≡ true) × (used ≡ before ++ m ∷ [])
Holds text ds (frames.Right a op ∷ k) used = (before : List Token) × (p : Parse) × Holds text ds k before × TakesAny k × Reads text p a
    × (1 ≤ level_of op.kind) × (is_over op.kind ≡ false) × (least k ≤ level_of op.kind) × (left_least op.kind ≤ level p) × (height p + length k ≤ height_limit)
    × (used ≡ before ++ (tokens p ++ op ∷ []))
Holds text ds (frames.Argument l es spare ∷ k) used = (before : List Token) × (n : Token) × (o : Token) × (mid : List Token) × Holds text ds k before × TakesAny k
    × IsLabel text n l × (o.kind ≡ kinds.Sign marks.Open) × IsBefore text es spare mid × (length k ≤ spare) × (used ≡ before ++ (n ∷ o ∷ mid))
Holds text ds (frames.Test i ∷ k) used = (before : List Token) × (o : Token) × Holds text ds k before × TakesAny k
    × (i.kind ≡ kinds.If) × (o.kind ≡ kinds.Sign marks.Open) × (used ≡ before ++ (i ∷ o ∷ []))
Holds text ds (frames.Chosen i a ∷ k) used = (before : List Token) × (o : Token) × (p : Parse) × (c : Token) × Holds text ds k before × TakesAny k
    × (i.kind ≡ kinds.If) × (o.kind ≡ kinds.Sign marks.Open) × Reads text p a × (c.kind ≡ kinds.Sign marks.Comma) × (height p + length k ≤ height_limit)
    × (used ≡ before ++ (i ∷ o ∷ tokens p ++ c ∷ []))
Holds text ds (frames.Otherwise i a b ∷ k) used = (before : List Token) × (o : Token) × (p : Parse) × (c : Token) × (q : Parse) × (d : Token) × Holds text ds k before × TakesAny k
    × (i.kind ≡ kinds.If) × (o.kind ≡ kinds.Sign marks.Open) × Reads text p a × (c.kind ≡ kinds.Sign marks.Comma) × (height p + length k ≤ height_limit)
    × Reads text q b × (d.kind ≡ kinds.Sign marks.Comma) × (height q + length k ≤ height_limit)
    × (used ≡ before ++ (i ∷ o ∷ tokens p ++ c ∷ tokens q ++ d ∷ []))
Holds text ds (frames.Value b bs spare l ∷ k) used = (before : List Token) × (w : Token) × (mid : List Token) × (n : Token) × (e : Token) × Holds text ds k before
    × (b.kind ≡ kinds.Reserved words.Begin) × (w.kind ≡ kinds.Reserved words.With) × IsBound text bs spare mid × IsLabel text n l × (e.kind ≡ kinds.Sign marks.Equal)
    × (length k ≤ spare) × (used ≡ before ++ (b ∷ w ∷ mid ++ n ∷ e ∷ []))
Holds text ds (frames.Returned b bs spare ∷ k) used = (before : List Token) × (mid : List Token) × Holds text ds k before
    × IsOpened text b bs spare mid × (length k ≤ spare) × (used ≡ before ++ mid)

-- and of this whole expression
abbrev pub IsWhole : List ℕ → Measured → List Frame → List Decl → List Token → Type 0
IsWhole text x k ds used = (before : List Token) × (p : Parse) × Holds text ds k before × TakesAny k × Reads text p x
    × (height p + length k ≤ 1 + height_limit) × (least k ≤ level p) × (used ≡ before ++ tokens p)

-- the tokens so far are those of the state, the stack and the declarations
abbrev pub Stands : List ℕ → State → List Frame → List Decl → List Token → Type 0
Stands text states.Between k ds used = (k ≡ []) × HasDecls text ds used
Stands text states.Define k ds used = (k ≡ []) × (before : List Token) × (d : Token) × HasDecls text ds before × (d.kind ≡ kinds.Reserved words.Define) × (used ≡ before ++ d ∷ [])
Stands text states.FunctionWord k ds used = (k ≡ []) × (before : List Token) × (d : Token) × (f : Token) × HasDecls text ds before
    × (d.kind ≡ kinds.Reserved words.Define) × (f.kind ≡ kinds.Reserved words.Function) × (used ≡ before ++ (d ∷ f ∷ []))
Stands text (states.FunctionName l) k ds used = (k ≡ []) × (before : List Token) × (d : Token) × (f : Token) × (n : Token) × HasDecls text ds before
    × (d.kind ≡ kinds.Reserved words.Define) × (f.kind ≡ kinds.Reserved words.Function) × IsLabel text n l × (used ≡ before ++ (d ∷ f ∷ n ∷ []))
Stands text (states.ParamsOpen l) k ds used = (k ≡ []) × HasName text ds l used
Stands text (states.ParamsComma l ps) k ds used = (k ≡ []) × (before : List Token) × (first : Token) × (mores : List (Token × Token)) × (c : Token) × HasName text ds l before
    × AreParams (Grammar.params first mores) × (params_of text (Grammar.params first mores) ≡ ps) × (c.kind ≡ kinds.Sign marks.Comma)
    × (used ≡ before ++ (param_tokens (Grammar.params first mores) ++ c ∷ []))
Stands text (states.ParamsName l ps) k ds used = (k ≡ []) × (before : List Token) × (first : Token) × (mores : List (Token × Token)) × HasName text ds l before
    × AreParams (Grammar.params first mores) × (params_of text (Grammar.params first mores) ≡ ps) × (used ≡ before ++ param_tokens (Grammar.params first mores))
Stands text (states.ParamsClose l ps) k ds used = (k ≡ []) × HasHead text ds l ps used
Stands text states.VariableWord k ds used = (k ≡ []) × (before : List Token) × (d : Token) × (v : Token) × HasDecls text ds before
    × (d.kind ≡ kinds.Reserved words.Define) × (v.kind ≡ kinds.Reserved words.Variable) × (used ≡ before ++ (d ∷ v ∷ []))
Stands text (states.VariableName l) k ds used = (k ≡ []) × (before : List Token) × (d : Token) × (v : Token) × (n : Token) × HasDecls text ds before
    × (d.kind ≡ kinds.Reserved words.Define) × (v.kind ≡ kinds.Reserved words.Variable) × IsLabel text n l × (used ≡ before ++ (d ∷ v ∷ n ∷ []))
Stands text states.Before k ds used = Holds text ds k used × TakesAny k × (length k ≤ height_limit)
Stands text (states.Named l) k ds used = (before : List Token) × (n : Token) × Holds text ds k before × TakesAny k × (length k ≤ height_limit) × IsLabel text n l × (used ≡ before ++ n ∷ [])
Stands text (states.Whole x) k ds used = IsWhole text x k ds used
Stands text (states.Divided a op) k ds used = (before : List Token) × (p : Parse) × Holds text ds k before × TakesAny k × Reads text p a
    × (op.kind ≡ kinds.Sign marks.Over) × (least k ≤ level_of op.kind) × (left_least op.kind ≤ level p) × (height p + length k ≤ height_limit)
    × (used ≡ before ++ (tokens p ++ op ∷ []))
Stands text (states.CallOpen l) k ds used = (before : List Token) × (n : Token) × (o : Token) × Holds text ds k before × TakesAny k × (1 + length k ≤ height_limit)
    × IsLabel text n l × (o.kind ≡ kinds.Sign marks.Open) × (used ≡ before ++ (n ∷ o ∷ []))
Stands text (states.If i) k ds used = (before : List Token) × Holds text ds k before × TakesAny k × (1 + length k ≤ height_limit) × (i.kind ≡ kinds.If) × (used ≡ before ++ i ∷ [])
Stands text (states.Begin b) k ds used = (before : List Token) × Holds text ds k before × (1 + length k ≤ height_limit) × (b.kind ≡ kinds.Reserved words.Begin) × (used ≡ before ++ b ∷ [])
Stands text (states.Binds b bs spare) k ds used = (before : List Token) × (w : Token) × (mid : List Token) × Holds text ds k before × (1 + length k ≤ height_limit)
    × (b.kind ≡ kinds.Reserved words.Begin) × (w.kind ≡ kinds.Reserved words.With) × IsBound text bs spare mid × (length k ≤ spare) × (used ≡ before ++ (b ∷ w ∷ mid))
Stands text (states.BindName b bs spare l) k ds used = (before : List Token) × (w : Token) × (mid : List Token) × (n : Token) × Holds text ds k before × (1 + length k ≤ height_limit)
    × (b.kind ≡ kinds.Reserved words.Begin) × (w.kind ≡ kinds.Reserved words.With) × IsBound text bs spare mid × (length k ≤ spare) × IsLabel text n l
    × (used ≡ before ++ (b ∷ w ∷ mid ++ n ∷ []))

-- the same of what a token does, where it may come
abbrev pub Keeps : List ℕ → List Token → Next → Type 0
Keeps text used None = Unit {0}
Keeps text used (Some n) = Stands text n.0 n.1.stack n.1.decls used
