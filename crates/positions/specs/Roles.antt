-- What a position is to the names of a page. Gathering and rewriting both rest on this.
use Rattle.std.specs.Prelude.{ℕ, Bool, true, false, cond, ◌&&◌, List, [], ◌∷◌, ◌++◌, is_some, nat_lt}
use Rattle.table.specs.declared.table.Entry.{Entry}
use Rattle.table.specs.Maps.{lookup}
use Rattle.pages.specs.declared.kind.Kind.{Kind}
use Rattle.pages.specs.declared.kind.Kind.TheVariants.{Node, Name, Number, Key, Private, Jattr, String, Directive, Template, Paren, Cond, Seq, In, Default, Member, Jmember, Index, Slot, Prop, Bind, Full, Method, Field, Accessor, Bare}
use Rattle.pages.specs.Trees.{Text, without, bytes, astray}
use Rattle.positions.specs.declared.page.PageOptions.{PageOptions}
use Rattle.positions.specs.declared.role.Role.{Role}
use Rattle.positions.specs.Walks.{Position}

-- a start is a place where the table of places has it
abbrev pub is_place : List (Entry ℕ (Unit {0})) → ℕ → Bool
is_place places start = is_some (lookup nat_lt start places)

abbrev pub nothing : Role
nothing = record { counted = false; occupied = false }

-- the text of a property's name is counted
abbrev pub property : Role
property = record { counted = true; occupied = false }

-- a literal is counted at a place; elsewhere it is occupied, and is counted too if it is walked as a key and quoted
-- names are to be mangled
abbrev pub literal : Bool → Bool → PageOptions → Role
literal at_place as_key o = cond at_place property (record { counted = as_key && o.mangle_quoted; occupied = true })

-- what the text of a node of this kind is, by whether its start is a place and whether it is walked as a key: a number
-- walked as a key and a directive are occupied
abbrev pub role : Kind → Bool → Bool → PageOptions → Role
role Member p k o = property
role Bare p k o = property
role Key p k o = property
role Jattr p k o = property
role Jmember p k o = property
role String p k o = literal p k o
role Template p k o = literal p k o
role Number p k o = record { counted = false; occupied = k }
role Directive p k o = record { counted = false; occupied = true }
role Node p k o = nothing
role Name p k o = nothing
role Private p k o = nothing
role Paren p k o = nothing
role Cond p k o = nothing
role Seq p k o = nothing
role In p k o = nothing
role Default p k o = nothing
role Index p k o = nothing
role Slot p k o = nothing
role Prop p k o = nothing
role Bind p k o = nothing
role Full p k o = nothing
role Method p k o = nothing
role Field p k o = nothing
role Accessor p k o = nothing

-- Places and options, which with the tree make a page.
pub record Setting : Type 0 where
  pub places : List (Entry ℕ (Unit {0}))
  pub options : PageOptions

abbrev pub role_of : Setting → Position → Role
role_of s p = role p.label.kind (is_place s.places p.label.start) p.as_key s.options

-- a text, if there is one and it is wanted
abbrev pub text_if : Bool → Text → List (List ℕ)
text_if wanted without = []
text_if wanted (bytes t) = cond wanted (t ∷ []) []
text_if wanted astray = []

-- the name that a position counts, if it counts one
abbrev pub counted_at : Setting → Position → List (List ℕ)
counted_at s p = text_if (role_of s p).counted p.label.text

-- the text that a position occupies, if it occupies one
abbrev pub occupied_at : Setting → Position → List (List ℕ)
occupied_at s p = text_if (role_of s p).occupied p.label.text

-- the names that positions count, one for each that counts one, in their order
abbrev pub counted : Setting → List Position → List (List ℕ)
counted s [] = []
counted s (p ∷ ps) = counted_at s p ++ counted s ps

-- the texts that positions occupy, one for each that occupies one, in their order
abbrev pub occupied : Setting → List Position → List (List ℕ)
occupied s [] = []
occupied s (p ∷ ps) = occupied_at s p ++ occupied s ps
