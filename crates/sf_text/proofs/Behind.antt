-- A template behind those that were read.
use Rattle.std.proofs.Common.{rules, ◌≡◌, ◌+◌, ◌≤◌, List, [], ◌∷◌, ◌++◌, map, refl, sym, ◌∙◌, ap, append_assoc, subst, arith}
use Rattle.std.specs.List.{All}
use Rattle.std.proofs.lemmas.List.{flat_map_more}
use Rattle.std.proofs.lemmas.List.Elements.{All-append, All-cons, All-nil}
use Rattle.std.proofs.lemmas.List.Sums.{sum_by_push}
use Rattle.sf_refusal.specs.declared.spot.Spot.{Spot}
use Rattle.sf_term.specs.declared.program.Program.{Program}
use Rattle.sf_term.specs.Trees.{Template, term_depth, terms_in, expressions_in}
use Rattle.sf_term.specs.Headers.{Header}
use Rattle.sf_term.specs.Arena.{templates_of, headers_of, term_template, term_count, expression_count}
use Rattle.sf_term.proofs.Extended.{few_terms, few_program_expressions}
use Rattle.sf_lex.specs.declared.token.PlacedToken.{PlacedToken}
use Rattle.sf_lex.specs.Tokens.{Tok}
use Rattle.sf_text.specs.declared.parts.stop.Stop.{Stop}
use Rattle.sf_text.specs.declared.parts.stop.Stop.TheVariants.{At as At', Memory}
use Rattle.sf_grammar.specs.declared.ty.Version.{Version}
use Rattle.sf_grammar.specs.Spelling.{spell_template, spell_templates, term_total, expression_total, HasWrittenTypes}
use Rattle.sf_grammar.specs.Reading.{Counts, parse_template}
use Rattle.sf_text.specs.declared.parts.reader.Reader.{Reader}
use Rattle.sf_text.specs.Parsing.Answers.{StopsReading, toks, ahead, counts_of}
use Rattle.sf_text.specs.Answers.{FoundTemplate}
use Rattle.sf_grammar.specs.Stopping.{Stopped}
use Rattle.sf_text.specs.Progress.{Behind, StopsAfter, IsBlankProgram}
use Rattle.sf_grammar.specs.Placing.{TemplatesPlaced, none_placed}
use Rattle.sf_text.specs.Parsing.Consuming.{places, spots_ahead, Consumes}
use Rattle.sf_text.specs.Consuming.{PlacesTemplate}
use Rattle.sf_text.proofs.Placed.{templates_keep, templates_more}
use Rattle.sf_grammar.proofs.Takes.{TookTemplate, template_takes}

took : (v : Version) (old new : Program) (rest behind : List Tok) (f : FoundTemplate old new behind (parse_template v (counts_of old) rest)) → TookTemplate v (counts_of old) rest f.template behind
took v old new rest behind f = template_takes v (counts_of old) rest f.template behind (few_program_expressions old) f.is

pub behind_more : (v : Version) (tokens rest behind : List Tok) (old new : Program) → Behind v tokens old rest → FoundTemplate old new behind (parse_template v (counts_of old) rest) → Behind v tokens new behind
behind_more v tokens rest behind old new b f =
    let t = took v old new rest behind f in
    let terms : term_total (templates_of old ++ f.template ∷ []) ≡ term_total (templates_of old) + terms_in f.template.body = sum_by_push (λ (t : Template). terms_in t.body) (templates_of old) f.template in
    let expressions : expression_total (templates_of old ++ f.template ∷ []) ≡ expression_total (templates_of old) + expressions_in f.template.body = sum_by_push (λ (t : Template). expressions_in t.body) (templates_of old) f.template in
    let all_terms : term_count new ≡ term_total (templates_of new) =
    f.terms ∙ ap (λ (c : Counts). c.terms + terms_in f.template.body) b.counted ∙ sym terms ∙ ap term_total (sym f.templates) in
    let all_expressions : expression_count new ≡ expression_total (templates_of new) =
    f.expressions ∙ ap (λ (c : Counts). c.expressions + expressions_in f.template.body) b.counted ∙ sym expressions ∙ ap expression_total (sym f.templates) in
    let shallow : Template → Type 0 = λ t. term_depth t.body ≤ 64 in
    record {
      spelled = b.spelled ∙ ap (λ r. spell_templates v (templates_of old) ++ r) t.spelled ∙ sym (append_assoc (spell_templates v (templates_of old)) (spell_template v f.template) behind)
          ∙ ap (λ xs. xs ++ behind) (flat_map_more (spell_template v) [] (templates_of old) f.template) ∙ ap (λ ts. spell_templates v ts ++ behind) (sym f.templates);
      counted = rw (all_terms, all_expressions) refl;
      limited = record {
        shallow = subst (All shallow) (sym f.templates) (All-append shallow (templates_of old) (f.template ∷ []) b.limited.shallow (All-cons shallow f.template [] t.shallow (All-nil shallow)));
        typed = subst (All (HasWrittenTypes v)) (sym f.templates) (All-append (HasWrittenTypes v) (templates_of old) (f.template ∷ []) b.limited.typed (All-cons (HasWrittenTypes v) f.template [] t.typed (All-nil (HasWrittenTypes v))));
        few_terms = omega (arith, few_terms new);
        few_expressions = omega (arith, few_program_expressions new);
      };
    }

-- the templates up to where the reader is were read, and stand where their tokens do
pub record Reached (v : Version) (tokens : List PlacedToken) (now : Reader) : Type 0 where
  pub templates : Behind v (toks tokens) now.program (ahead now.cursor)
  pub placed : Consumes (TemplatesPlaced v now.program (headers_of now.program)) (places tokens) (spots_ahead now.cursor)

none_behind : (v : Version) (tokens : List Tok) (p : Program) → IsBlankProgram p → Behind v tokens p tokens
none_behind v tokens p blank = search rules

no_headers : (p : Program) (hs : List Header) → map (term_template p) hs ≡ [] → hs ≡ []
no_headers p [] same = refl
no_headers p (h ∷ hs) same = cc

pub none_reached : (v : Version) (now : Reader) → IsBlankProgram now.program → Reached v now.cursor.tokens.now now
none_reached v now blank = record {
  templates = none_behind v (ahead now.cursor) now.program blank;
  placed = record { front = []; split = refl; holds = subst (λ hs. TemplatesPlaced v now.program hs []) (sym (no_headers now.program (headers_of now.program) blank.templates)) none_placed };
}

placed_more : (v : Version) (tokens rest behind : List Spot) (old new : Program) → Consumes (TemplatesPlaced v old (headers_of old)) tokens rest → PlacesTemplate v old new rest behind → Consumes (TemplatesPlaced v new (headers_of new)) tokens behind
placed_more v tokens rest behind old new a t = record {
  front = a.front ++ t.placed.front;
  split = a.split ∙ ap (λ r. a.front ++ r) t.placed.split ∙ sym (append_assoc a.front t.placed.front behind);
  holds = subst (λ hs. TemplatesPlaced v new hs (a.front ++ t.placed.front)) (sym t.headers)
      (templates_more v new (headers_of old) t.header a.front t.placed.front (templates_keep v old new t.kept (headers_of old) a.front a.holds) t.placed.holds);
}

-- one template more was reached
pub next_reached : (v : Version) (tokens : List PlacedToken) (now after : Reader) → Reached v tokens now → FoundTemplate now.program after.program (ahead after.cursor) (parse_template v (counts_of now.program) (ahead now.cursor))
    → PlacesTemplate v now.program after.program (spots_ahead now.cursor) (spots_ahead after.cursor) → Reached v tokens after
next_reached v tokens now after reached found placed = record {
  templates = behind_more v (toks tokens) (ahead now.cursor) (ahead after.cursor) now.program after.program reached.templates found;
  placed = placed_more v (places tokens) (spots_ahead now.cursor) (spots_ahead after.cursor) now.program after.program reached.placed placed;
}

-- a template stops behind others
pub stops_after : (v : Version) (tokens : List PlacedToken) (now : Reader) (e : Stop) → Reached v tokens now → (now.cursor.tokens.now ≡ [] → ⊥) → StopsReading e (parse_template v (counts_of now.program) (ahead now.cursor)) → StopsAfter v e (toks tokens)
stops_after v tokens now Memory reached some stopped = tt
stops_after v tokens now (At' fault left) reached some stopped = record {
  read = templates_of now.program;
  rest = ahead now.cursor;
  spelled = reached.templates.spelled;
  limited = reached.templates.limited;
  more = λ none. some (nothing now.cursor.tokens.now none);
  stopped = subst (λ (c : Counts). Stopped fault left (parse_template v c (ahead now.cursor))) reached.templates.counted stopped;
}
  where
    nothing : (rest : List PlacedToken) → toks rest ≡ [] → rest ≡ []
    nothing [] none = refl
    nothing (t ∷ ts) none = cc
