-- Tables that agree at a task's own places are written alike: the same answer, and the same bytes left in the buffer. By the scan's law, and because the text spells
-- nothing else. Assumes nothing.
use Prim.Native.Nat.{ℕ, ◌≤◌}
use native.Mathlib.Omega.{arith}
use mathlib.Core.Path.{◌≡◌, refl, sym, ap, ◌∙◌}
use mathlib.Core.List.{List}
use lib.ListN.{length}
use Rattle.std.specs.Prelude.{Ok, Err}
use Rattle.scan.specs.Found.{Found}
use Rattle.meaning.proofs.Facts.{by_order}
use Rattle.tables.specs.Layout.{Tables}
use Rattle.tables.specs.Task.{task_of}
use Rattle.scan.specs.Scan.{tables_fault}
use Rattle.scan.specs.Own.{OwnSame}
use Rattle.scan.proofs.Unread.{own_alike}
use Rattle.grammar.specs.Spelling.{text_of}
use Rattle.grammar.specs.Writing.{text_room, page, over, write_text}
use Rattle.grammar.proofs.SpellAccepted.{Agree, agree_spelled}
use Rattle.grammar.proofs.Writing.{short_buffer, fault_told, tables_written}

module _ (t u : Tables) (O : OwnSame t u) where
  own_agree : Agree (task_of t) (task_of u)
  own_agree =
      let vars = O.counts.vars in
      let ops = O.counts.ops in
      let maps = O.counts.maps in
      record {
        dom = λ v l. O.dom v (omega arith);
        init = λ v l. O.init v (omega arith);
        goal = λ v l. O.goal v (omega arith);
        quota = O.counts.quota;
        cost = λ o l. O.cost o (omega arith);
        pre = λ o v k l. O.pre o v (omega arith) (omega arith);
        eff = λ o v k l. O.eff o v (omega arith) (omega arith);
        mark = λ o l. O.mark o (omega arith);
        class = λ m v x k l h. let g = O.dom v (omega arith) in O.class m v x (omega arith) (omega arith) (omega arith);
        share = λ m o k l. O.share m o (omega arith) (omega arith);
      }

  -- one text
  pub own_text : text_of t ≡ text_of u
  own_text = let c = O.counts in agree_spelled (task_of t) (task_of u) c.edition c.vars c.ops c.maps own_agree

  pub own_written : (b : List ℕ) → write_text t b ≡ write_text u b
  own_written b =
      by_order (length b) text_room (λ l. short_buffer t b l ∙ sym (short_buffer u b l)) (λ l. found l (tables_fault t) refl)
    where
      same : tables_fault u ≡ tables_fault t
      same = sym (own_alike t u O).fault

      found : text_room ≤ length b → (f : Found) → tables_fault t ≡ f → write_text t b ≡ write_text u b
      found l (Ok tt) e =
          tables_written t b l e ∙ ap (λ (x : List ℕ). page (Ok (length x)) (over x b)) own_text ∙ sym (tables_written u b l (same ∙ e))
      found l (Err r) e = fault_told t b l r e ∙ sym (fault_told u b l r (same ∙ e))
