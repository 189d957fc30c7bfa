-- The place is one.
use Rattle.std.proofs.Common.{◌≡◌, ℕ, List, [], ◌∷◌, ◌++◌, length, refl, sym, ◌∙◌, ap, subst, append_assoc}
use Rattle.std.proofs.lemmas.List.{append-nil, map-append}
use Rattle.sf_refusal.specs.declared.spot.Spot.{Spot}
use Rattle.sf_lex.specs.Tokens.{Located, offset_place}
use Rattle.sf_lex.specs.Cutting.{Lexes}
use Rattle.sf_lex.proofs.Cuts.{further, cuts_nil, stuck_nil}
use Rattle.sf_grammar.specs.Stopping.{offset_of}
use Rattle.sf_place.specs.Places.{SpellsNetwork, LeadsToNetwork, GoesNoFurther, tokens_of, NoNetworkFrom}

-- bytes have their tokens alone
lexes_once : (bytes : List ℕ) (one two : List Located) → Lexes bytes one → Lexes bytes two → two ≡ one
lexes_once bytes one two a b =
    let on = further 0 a.end b.end bytes [] [] one two a.cut b.cut stuck_nil in
    on.is ∙ ap (λ ls. one ++ ls) (cuts_nil a.end b.end [] on.found on.cut) ∙ append-nil one

-- of two ways to split tokens, one has more in front, or they are one
data Fronts (one at two there : List Located) : Type 0 where
  the_same : at ≡ there → Fronts one at two there
  longer : (l : Located) (rest : List Located) → at ≡ l ∷ (rest ++ there) → two ≡ one ++ (l ∷ rest) → Fronts one at two there
  shorter : (l : Located) (rest : List Located) → there ≡ l ∷ (rest ++ at) → one ≡ two ++ (l ∷ rest) → Fronts one at two there

fronts : (one at two there : List Located) → one ++ at ≡ two ++ there → Fronts one at two there
fronts [] at [] there same = the_same same
fronts [] at (l ∷ two) there same = longer l two same refl
fronts (l ∷ one) at [] there same = shorter l one (sym same) refl
fronts (l ∷ one) at (k ∷ two) there same = from (fronts one at two there (cc))
  where
    head : l ≡ k
    head = cc

    from : Fronts one at two there → Fronts (l ∷ one) at (k ∷ two) there
    from (the_same is) = the_same is
    from (longer m rest is split) = longer m rest is (cc)
    from (shorter m rest is split) = shorter m rest is (cc)

-- no network begins with a front and what goes no further behind it
longer_none : (one at two there : List Located) (l : Located) (rest : List Located) → at ≡ l ∷ (rest ++ there) → two ≡ one ++ (l ∷ rest) → GoesNoFurther (tokens_of one) (tokens_of at) → LeadsToNetwork (tokens_of two) → ⊥
longer_none one at two there l rest is split no_further leads =
    let tokens : tokens_of two ++ leads.more ≡ tokens_of one ++ (l.token ∷ (tokens_of rest ++ leads.more)) =
    ap (λ ls. tokens_of ls ++ leads.more) split ∙ ap (λ ts. ts ++ leads.more) (map-append (λ (l : Located). l.token) one (l ∷ rest)) ∙ append_assoc (tokens_of one) (l.token ∷ tokens_of rest) leads.more in
    let none : GoesNoFurther (tokens_of one) (l.token ∷ tokens_of (rest ++ there)) = subst (λ (ls : List Located). GoesNoFurther (tokens_of one) (tokens_of ls)) is no_further in
    none (tokens_of rest ++ leads.more) (subst SpellsNetwork tokens leads.network)

pub one_place : (bytes : List ℕ) (p q : Spot) → NoNetworkFrom bytes p → NoNetworkFrom bytes q → p ≡ q
one_place bytes p q a b = from (fronts a.front a.at b.front b.at (lexes_once bytes (b.front ++ b.at) (a.front ++ a.at) b.cut a.cut))
  where
    from : Fronts a.front a.at b.front b.at → p ≡ q
    from (the_same is) = a.is ∙ ap (λ ls. offset_place bytes (offset_of (length bytes) ls)) is ∙ sym b.is
    from (longer l rest is split) = absurd (longer_none a.front a.at b.front b.at l rest is split a.no_further b.leads)
    from (shorter l rest is split) = absurd (longer_none b.front b.at a.front a.at l rest is split b.no_further a.leads)
