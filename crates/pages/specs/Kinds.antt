-- What each kind of node takes: the table of kinds.
use Rattle.std.specs.Prelude.{ℕ, Bool, true, false, Some, None, Option}
use Rattle.pages.specs.declared.kind.Kind.{Kind}
use Rattle.pages.specs.declared.kind.Kind.TheVariants.{Node, Name, Number, Key, Private, Jattr, String, Directive, Template, Paren, Cond, Seq, In, Default, Member, Jmember, Index, Slot, Prop, Bind, Full, Method, Field, Accessor, Bare}
use Rattle.pages.specs.declared.kind.Texts.{Texts}
use Rattle.pages.specs.declared.kind.Texts.TheVariants.{Never, Always, Maybe, Childless}
use Rattle.pages.specs.declared.kind.Standing.{Standing}
use Rattle.pages.specs.declared.kind.Standing.TheVariants.{PlainKey, PrivateKey, Literal, Expression}

-- One line of the table: whether there is a text, how many children there may be (no upper end: any
-- number), which of the flags o, c and s are allowed, and what the kind is in the place of a key.
pub record Rule : Type 0 where
  pub text : Texts
  pub least : ℕ
  pub most : Option ℕ
  pub optional : Bool
  pub computed : Bool
  pub shorthand : Bool
  pub standing : Standing

-- a line for a kind that takes no flag and stands where any expression does
abbrev pub plain : Texts → ℕ → Option ℕ → Rule
plain t least most =
    record { text = t; least = least; most = most; optional = false; computed = false; shorthand = false; standing = Expression }

-- a line for a kind without children and flags
abbrev pub leaf : Texts → Standing → Rule
leaf t k =
    record { text = t; least = 0; most = Some 0; optional = false; computed = false; shorthand = false; standing = k }

-- a line for a kind that may be optional
abbrev pub chained : Texts → ℕ → Rule
chained t n =
    record { text = t; least = n; most = Some n; optional = true; computed = false; shorthand = false; standing = Expression }

-- a line for one of the six kinds whose first child is a key
abbrev pub keyed : ℕ → ℕ → Bool → Rule
keyed least most s =
    record { text = Never; least = least; most = Some most; optional = false; computed = true; shorthand = s; standing = Expression }

abbrev pub rule : Kind → Rule
rule Node = plain Never 0 None
rule Name = leaf Always Expression
rule Number = leaf Always Literal
rule Key = leaf Always PlainKey
rule Private = leaf Always PrivateKey
rule Jattr = leaf Always Expression
rule String = leaf Maybe Literal
rule Directive = leaf Maybe Expression
rule Template = plain Childless 0 None
rule Paren = plain Never 1 (Some 1)
rule Cond = plain Never 3 (Some 3)
rule Seq = plain Never 1 None
rule In = plain Never 2 (Some 2)
rule Default = plain Never 2 (Some 2)
rule Member = chained Always 1
rule Jmember = plain Always 1 (Some 1)
rule Index = chained Never 2
rule Slot = chained Never 2
rule Prop = keyed 2 2 true
rule Bind = keyed 2 2 true
rule Full = keyed 2 2 false
rule Method = keyed 2 2 false
rule Field = keyed 1 2 false
rule Accessor = keyed 1 2 false
rule Bare = plain Always 0 (Some 1)
