use Rattle.std.proofs.Common.{◌≡◌, ℕ, zero, suc, ◌+◌, ◌<◌, List, [], ◌∷◌, ◌++◌, length, take, get_or, sym, ap, ◌∙◌, append_assoc, append-nil, arith, rules}
use Rattle.std.specs.List.{flat_map}
use Rattle.sf_spelling.specs.Spelling.{escaped}
use Rattle.sf_spelling.proofs.write.append_escaped.Goals.{in-34+in_ok-extend_from_slice-in-34, in-92+in_ok-extend_from_slice-in-92, in-10+in_ok-extend_from_slice-in-10, in_default+in_ok-push-in_default}
use Rattle.sf_spelling.proofs.write.append_escaped.Goals as goal

-- one byte more
grown : (bytes : List ℕ) (i : ℕ) → i < length bytes → flat_map escaped (take (suc i) bytes) ≡ flat_map escaped (take i bytes) ++ escaped (get_or bytes i 0)
grown [] i h = absurd (omega arith)
grown (b ∷ bs) zero h = append-nil (escaped b)
grown (b ∷ bs) (suc i) h = ap (λ l. escaped b ++ l) (grown bs i (omega arith)) ∙ sym (append_assoc (escaped b) (flat_map escaped (take i bs)) (escaped (get_or bs i 0)))

next : (old bytes out new more : List ℕ) (i : ℕ) → i < length bytes → more ≡ escaped (get_or bytes i 0) → out ≡ old ++ flat_map escaped (take i bytes) → new ≡ out ++ more → new ≡ old ++ flat_map escaped (take (i + 1) bytes)
next old bytes out new more i h same is grows =
    let f = flat_map escaped (take i bytes) in
    let one : suc i ≡ i + 1 = omega arith in
    grows ∙ ap (λ l. l ++ more) is ∙ append_assoc old f more ∙ ap (λ l. old ++ (f ++ l)) same ∙ ap (λ l. old ++ l) (sym (grown bytes i h)) ∙ ap (λ n. old ++ flat_map escaped (take n bytes)) one

pub loop-c-preserved : goal.loop-c-preserved
loop-c-preserved c =
    let byte = get_or c.args.bytes.now c.loop-c.c-index 0 in
    elim c.match-c.branch [
      | in-34+in_ok-extend_from_slice-in-34 w ↦ rw w.out-is (next c.args.out.now.items c.args.bytes.now _ _ (92 ∷ 34 ∷ []) c.loop-c.c-index c.loop-c-test.true (sym (ap escaped w.in-34.is)) c.loop-c.invariant w.in_ok-extend_from_slice-in-34.ensures.items)
      | in-92+in_ok-extend_from_slice-in-92 w ↦ rw w.out-is (next c.args.out.now.items c.args.bytes.now _ _ (92 ∷ 92 ∷ []) c.loop-c.c-index c.loop-c-test.true (sym (ap escaped w.in-92.is)) c.loop-c.invariant w.in_ok-extend_from_slice-in-92.ensures.items)
      | in-10+in_ok-extend_from_slice-in-10 w ↦ rw w.out-is (next c.args.out.now.items c.args.bytes.now _ _ (92 ∷ 110 ∷ []) c.loop-c.c-index c.loop-c-test.true (sym (ap escaped w.in-10.is)) c.loop-c.invariant w.in_ok-extend_from_slice-in-10.ensures.items)
      | in_default+in_ok-push-in_default w ↦ (
          let same : byte ∷ [] ≡ escaped byte = search rules in
          rw w.out-is (next c.args.out.now.items c.args.bytes.now _ _ (byte ∷ []) c.loop-c.c-index c.loop-c-test.true same c.loop-c.invariant w.in_ok-push-in_default.ensures.items))
    ]
