use Rattle.std.proofs.Common.{◌≡◌, ◌∷◌, [], ◌++◌, map, sym, ap, ◌∙◌, append_assoc}
use Rattle.sf_value.specs.View.{key_of, keyed_rows}
use Rattle.sf_spelling.specs.Spelling.{spelling, rows_spelling}
use Rattle.sf_spelling.proofs.Fronts.{front_kept, same_kept, on_err, kept_on_err, behind}
use Rattle.sf_spelling.proofs.write.+append.Goals as goal

pub append_pair-returns-in_err-append-2-clause-err : goal.append_pair-returns-in_err-append-2-clause-err
append_pair-returns-in_err-append-2-clause-err t c =
    let new = c.append-2.new.out.items in
    let bracket : c.push.new.self.items ≡ c.args.out.now.items ++ (40 ∷ []) = c.in_ok-push.ensures.items in
    let last = front_kept _ _ _ new c.in_ok-push-2.ensures.items c.in_err-append-2.ensures.err in
    let middle = front_kept _ _ _ new c.in_ok-append.ensures.ok last in
    on_err c.from_residual-in_err-append-2.result _ (front_kept _ _ _ new bracket middle)

pub append_more-returns-in_ok-append-in-len1-up-values-clause-err : goal.append_more-returns-in_ok-append-in-len1-up-values-clause-err
append_more-returns-in_ok-append-in-len1-up-values-clause-err t c =
    let r = c.append_more.result in
    let new = c.append_more.new.out.items in
    let comma : c.push.new.self.items ≡ c.args.out.now.items ++ (44 ∷ []) = c.in_ok-push-in-len1-up-values.ensures.items in
    let last = kept_on_err r _ _ _ new c.in_ok-append-in-len1-up-values.ensures.ok c.append_more.ensures.err in
    let middle = kept_on_err r _ _ _ new c.in_ok-append_key-in-len1-up-values.ensures.ok last in
    kept_on_err r _ _ _ new comma middle

pub append_pair-returns-in_err-append-clause-err : goal.append_pair-returns-in_err-append-clause-err
append_pair-returns-in_err-append-clause-err t c =
    let bracket : c.push.new.self.items ≡ c.args.out.now.items ++ (40 ∷ []) = c.in_ok-push.ensures.items in
    on_err c.from_residual-in_err-append.result _ (front_kept _ _ _ c.append.new.out.items bracket c.in_err-append.ensures.err)

pub append_pair-returns-in_err-push-2-clause-err : goal.append_pair-returns-in_err-push-2-clause-err
append_pair-returns-in_err-push-2-clause-err t c =
    let new = c.push-2.new.self.items in
    let bracket : c.push.new.self.items ≡ c.args.out.now.items ++ (40 ∷ []) = c.in_ok-push.ensures.items in
    let middle = front_kept _ _ _ new c.in_ok-append.ensures.ok (same_kept _ new c.in_err-push-2.ensures.items) in
    on_err c.from_residual-in_err-push-2.result _ (front_kept _ _ _ new bracket middle)

pub append_pair-returns-in_err-push-3-clause-err : goal.append_pair-returns-in_err-push-3-clause-err
append_pair-returns-in_err-push-3-clause-err t c =
    let new = c.push-3.new.self.items in
    let bracket : c.push.new.self.items ≡ c.args.out.now.items ++ (40 ∷ []) = c.in_ok-push.ensures.items in
    let comma : c.push-2.new.self.items ≡ c.append.new.out.items ++ (44 ∷ []) = c.in_ok-push-2.ensures.items in
    let last = front_kept _ _ _ new c.in_ok-append-2.ensures.ok (same_kept _ new c.in_err-push-3.ensures.items) in
    let middle = front_kept _ _ _ new c.in_ok-append.ensures.ok (front_kept _ _ _ new comma last) in
    on_err c.from_residual-in_err-push-3.result _ (front_kept _ _ _ new bracket middle)

pub append_pair-returns-clause-ok : goal.append_pair-returns-clause-ok
append_pair-returns-clause-ok t c =
    let bracket : c.push.new.self.items ≡ c.args.out.now.items ++ (40 ∷ []) = c.in_ok-push.ensures.items in
    let comma : c.push-2.new.self.items ≡ c.append.new.out.items ++ (44 ∷ []) = c.in_ok-push-2.ensures.items in
    let end : c.push-3.new.self.items ≡ c.append-2.new.out.items ++ (41 ∷ []) = c.in_ok-push-3.ensures.items in
    let first = spelling c.args.first.now in
    let second = spelling c.args.second.now in
    let new = c.push-3.new.self.items in
    behind c.args.out.now.items (40 ∷ []) c.push.new.self.items (first ++ 44 ∷ (second ++ 41 ∷ [])) new bracket
    (behind c.push.new.self.items first c.append.new.out.items (44 ∷ (second ++ 41 ∷ [])) new c.in_ok-append.ensures.ok
    (behind c.append.new.out.items (44 ∷ []) c.push-2.new.self.items (second ++ 41 ∷ []) new comma
    (behind c.push-2.new.self.items second c.append-2.new.out.items (41 ∷ []) new c.in_ok-append-2.ensures.ok end)))
    ∙ ap (λ xs. c.args.out.now.items ++ 40 ∷ xs) (sym (append_assoc first (44 ∷ second) (41 ∷ [])))

pub append_table-returns-in_err-append_rows-clause-err : goal.append_table-returns-in_err-append_rows-clause-err
append_table-returns-in_err-append_rows-clause-err t c =
    let bracket : c.push.new.self.items ≡ c.args.out.now.items ++ (123 ∷ []) = c.in_ok-push.ensures.items in
    on_err c.from_residual-in_err-append_rows.result _ (front_kept _ _ _ c.append_rows.new.out.items bracket c.in_err-append_rows.ensures.err)

pub append_table-returns-in_err-push-2-clause-err : goal.append_table-returns-in_err-push-2-clause-err
append_table-returns-in_err-push-2-clause-err t c =
    let new = c.push-2.new.self.items in
    let bracket : c.push.new.self.items ≡ c.args.out.now.items ++ (123 ∷ []) = c.in_ok-push.ensures.items in
    let middle = front_kept _ _ _ new c.in_ok-append_rows.ensures.ok (same_kept _ new c.in_err-push-2.ensures.items) in
    on_err c.from_residual-in_err-push-2.result _ (front_kept _ _ _ new bracket middle)

pub append_table-returns-clause-ok : goal.append_table-returns-clause-ok
append_table-returns-clause-ok t c =
    let bracket : c.push.new.self.items ≡ c.args.out.now.items ++ (123 ∷ []) = c.in_ok-push.ensures.items in
    let end : c.push-2.new.self.items ≡ c.append_rows.new.out.items ++ (125 ∷ []) = c.in_ok-push-2.ensures.items in
    let rows = rows_spelling (keyed_rows (map key_of c.args.rows.keys.now) c.args.rows.values.now) in
    let new = c.push-2.new.self.items in
    behind c.args.out.now.items (123 ∷ []) c.push.new.self.items (rows ++ 125 ∷ []) new bracket
    (behind c.push.new.self.items rows c.append_rows.new.out.items (125 ∷ []) new c.in_ok-append_rows.ensures.ok end)

pub append_rows-returns-in_err-append-in-len1-up-values-clause-err : goal.append_rows-returns-in_err-append-in-len1-up-values-clause-err
append_rows-returns-in_err-append-in-len1-up-values-clause-err t c =
    on_err c.from_residual-in_err-append-in-len1-up-values.result _ (front_kept _ _ _ c.append.new.out.items c.in_ok-append_key-in-len1-up-values.ensures.ok c.in_err-append-in-len1-up-values.ensures.err)

pub append_rows-returns-in_ok-append-in-len1-up-values-clause-err : goal.append_rows-returns-in_ok-append-in-len1-up-values-clause-err
append_rows-returns-in_ok-append-in-len1-up-values-clause-err t c =
    let r = c.append_more.result in
    let new = c.append_more.new.out.items in
    kept_on_err r _ _ _ new c.in_ok-append_key-in-len1-up-values.ensures.ok (kept_on_err r _ _ _ new c.in_ok-append-in-len1-up-values.ensures.ok c.append_more.ensures.err)

pub append_more-returns-in_err-append_key-in-len1-up-values-clause-err : goal.append_more-returns-in_err-append_key-in-len1-up-values-clause-err
append_more-returns-in_err-append_key-in-len1-up-values-clause-err t c =
    let comma : c.push.new.self.items ≡ c.args.out.now.items ++ (44 ∷ []) = c.in_ok-push-in-len1-up-values.ensures.items in
    on_err c.from_residual-in_err-append_key-in-len1-up-values.result _ (front_kept _ _ _ c.append_key.new.out.items comma c.in_err-append_key-in-len1-up-values.ensures.err)

pub append_more-returns-in_err-append-in-len1-up-values-clause-err : goal.append_more-returns-in_err-append-in-len1-up-values-clause-err
append_more-returns-in_err-append-in-len1-up-values-clause-err t c =
    let new = c.append.new.out.items in
    let comma : c.push.new.self.items ≡ c.args.out.now.items ++ (44 ∷ []) = c.in_ok-push-in-len1-up-values.ensures.items in
    let middle = front_kept _ _ _ new c.in_ok-append_key-in-len1-up-values.ensures.ok c.in_err-append-in-len1-up-values.ensures.err in
    on_err c.from_residual-in_err-append-in-len1-up-values.result _ (front_kept _ _ _ new comma middle)
