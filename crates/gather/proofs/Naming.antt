-- Which texts can be names.
use Rattle.std.proofs.Common.{◌≡◌, ℕ, true, false, ◌⊎◌, inl, inr, List, Ok, Err, ap, ◌∙◌, subst, arith}
use Rattle.std.proofs.lemmas.Bool.{cases_Bool, cond-false, cond-true}
use Rattle.std.proofs.lemmas.Bool.Decides.{nat_tests}
use Rattle.names.specs.declared.name.Name.{Name}
use Rattle.names.specs.Names.{before, bytes_of, long, name_of}
use Rattle.names.specs.Texts.{foreign}
use Rattle.options.specs.Giving.{fault_at, unless}
use Rattle.pages.specs.declared.refusal.Refusal.{Refusal}
use Rattle.pages.specs.declared.refusal.Refusal.TheVariants.{Foreign, Long}
use Rattle.gather.specs.Faults.{Wrong, not_ascii, too_long}
use Rattle.names.specs.Laws.{less_before_others, less_irreflexive, less_transitive}
use Rattle.table.proofs.Places.{Order}

-- what is wrong with a name at a node is told so
pub checked_wrong : (node : ℕ) (text : List ℕ) (refusal : Refusal) → Err refusal ≡ unless (fault_at node text) (name_of text) → Wrong node text refusal
checked_wrong node text refusal e = by (cases_Bool (long text)) (cases_Bool (foreign text))
  where
    by : (long text ≡ true) ⊎ (long text ≡ false) → (foreign text ≡ true) ⊎ (foreign text ≡ false) → Wrong node text refusal
    by (inl l) f =
        let told : unless (fault_at node text) (name_of text) ≡ Err (Long node) = ap (λ o. unless o (name_of text)) (cond-true _ _ _ l) in
        let z : Long node ≡ refusal = cc in subst (Wrong node text) z (too_long l)
    by (inr l) (inl f) =
        let told : unless (fault_at node text) (name_of text) ≡ Err (Foreign node) = ap (λ o. unless o (name_of text)) (cond-false _ _ _ l ∙ cond-true _ _ _ f) in
        let z : Foreign node ≡ refusal = cc in subst (Wrong node text) z (not_ascii l f)
    by (inr l) (inr f) =
        let told : unless (fault_at node text) (name_of text) ≡ Ok (name_of text) = ap (λ o. unless o (name_of text)) (cond-false _ _ _ l ∙ cond-false _ _ _ f) in
        absurd (let z : ◌≡◌ {A = ℕ} 0 1 = cc in omega arith)

-- a name at which nothing is wrong
pub record Checked (text : List ℕ) (name : Name) : Type 0 where
  pub not_long : long text ≡ false
  pub not_foreign : foreign text ≡ false
  pub is : name ≡ name_of text

pub checked_right : (node : ℕ) (text : List ℕ) (name : Name) → Ok name ≡ unless (fault_at node text) (name_of text) → Checked text name
checked_right node text name e = record {
  not_long = grind (arith, nat_tests);
  not_foreign = grind (arith, nat_tests);
  is = grind (arith, nat_tests);
}

-- the order of names has the laws that a table asks for
pub names_order : Order before
names_order =
    record {
      irreflexive = λ a. less_irreflexive (bytes_of a);
      transitive = λ a b c. less_transitive (bytes_of a) (bytes_of b) (bytes_of c);
      comparable = λ a b c. less_before_others (bytes_of a) (bytes_of b) (bytes_of c);
    }
