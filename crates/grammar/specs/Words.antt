-- The words and single bytes that listings are made of.
use Rattle.std.specs.Prelude.{ℕ, ◌+◌, Bool, true, false, cond, ◌&&◌, ◌||◌, List, [], ◌∷◌, ◌++◌, codes, ◌==◌, nat_le, nat_lt}
use Rattle.pages.specs.declared.kind.Kind.{Kind}
use Rattle.pages.specs.declared.kind.Kind.TheVariants.{Node, Name, Number, Key, Private, Jattr, String, Directive, Template, Paren, Cond, Seq, In, Default, Member, Jmember, Index, Slot, Prop, Bind, Full, Method, Field, Accessor, Bare}
use Rattle.pages.specs.declared.row.Flags.{Flags}

-- the name of a kind
abbrev pub word : Kind → List ℕ
word Node = codes "node"
word Name = codes "name"
word Number = codes "number"
word Key = codes "key"
word Private = codes "private"
word Jattr = codes "jattr"
word String = codes "string"
word Directive = codes "directive"
word Template = codes "template"
word Paren = codes "paren"
word Cond = codes "cond"
word Seq = codes "seq"
word In = codes "in"
word Default = codes "default"
word Member = codes "member"
word Jmember = codes "jmember"
word Index = codes "index"
word Slot = codes "slot"
word Prop = codes "prop"
word Bind = codes "bind"
word Full = codes "full"
word Method = codes "method"
word Field = codes "field"
word Accessor = codes "accessor"
word Bare = codes "bare"

abbrev pub kinds : List Kind
kinds =
    Node ∷ Name ∷ Number ∷ Key ∷ Private ∷ Jattr ∷ String ∷ Directive ∷ Template ∷ Paren ∷ Cond ∷ Seq ∷ In ∷ Default ∷ Member
    ∷ Jmember ∷ Index ∷ Slot ∷ Prop ∷ Bind ∷ Full ∷ Method ∷ Field ∷ Accessor ∷ Bare ∷ []

-- the flags that are set, in the order o, c, s
abbrev pub flag_word : Flags → List ℕ
flag_word f =
    cond f.optional (111 ∷ []) [] ++ (cond f.computed (99 ∷ []) [] ++ cond f.shorthand (115 ∷ []) [])

abbrev pub flagged : Flags → Bool
flagged f = f.optional || (f.computed || f.shorthand)

-- a byte that stands for itself in a quoted text: printable, and neither the quote nor the backslash
abbrev pub stands : ℕ → Bool
stands b = (nat_le 32 b && nat_le b 126) && cond (b == 34) false (cond (b == 92) false true)

-- the lower-case hexadecimal digit of a number below 16
abbrev pub hex : ℕ → ℕ
hex d = cond (nat_lt d 10) (48 + d) (87 + d)
