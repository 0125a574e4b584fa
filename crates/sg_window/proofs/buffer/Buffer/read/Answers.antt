use Rattle.std.proofs.Common.{◌+◌, ◌-◌, ◌≤◌, [], ◌++◌, take, length, ap, ap₂, sym, ◌∙◌, arith, length-take-le}
use Rattle.std.specs.Prelude.{slice_range}
use Rattle.std.proofs.lemmas.List.{with_items_is}
use borrow.Rule.Slice.PartMut.{put_mid, same_len_mid}
use Rattle.sg_window.specs.Held.{Held, holding}
use Rattle.sg_window.proofs.Slices.{text_moved, rest_moved, text_kept, rest_read}
use Rattle.sg_window.proofs.Reading.{reads_none, prepend-nil}
use Rattle.sg_window.proofs.buffer.Buffer.read.Goals as goal

pub returns-clause-reads : goal.returns-clause-reads
returns-clause-reads g c =
    let b = c.self.inside in
    let at = c.deref_mut.result.now in
    let size = b.end - b.start in
    let stop = b.stop - b.start in
    let n = c.in_ok-count.count in
    let k = size + c.min-room.result - size in
    let items = with_items_is c.move_to_front.new.bytes (put_mid size k at c.read.new.buf) (same_len_mid size k at c.read.new.buf c.read.auto.buf ∙ c.deref_mut.ensures.len) in
    let room : size ≤ length at = omega (arith, ap length c.deref_mut.ensures.value, c.move_to_front.ensures.size, c.self.invariant) in
    let count : n ≤ length c.read.new.buf = c.in_ok-count.ensures.count in
    let text = text_kept at c.read.new.buf 0 stop size k n room count (omega arith) (omega (arith, c.self.invariant)) ∙ ap (λ xs. slice_range xs 0 stop) c.deref_mut.ensures.value
    ∙ text_moved b.bytes.items c.move_to_front.new.bytes.items b.start b.stop b.end c.move_to_front.ensures.moved c.self.invariant.0 c.self.invariant.1 ∙ ap (λ (h : Held). h.text) c.self.view_is in
    let rest = rest_read at c.read.new.buf 0 stop size k n room count (omega arith) (omega (arith, c.self.invariant)) ∙ ap (λ xs. slice_range xs stop size ++ take n c.read.new.buf) c.deref_mut.ensures.value
    ∙ ap (λ xs. xs ++ take n c.read.new.buf) (rest_moved b.bytes.items c.move_to_front.new.bytes.items b.start b.stop b.end c.move_to_front.ensures.moved c.self.invariant.0 c.self.invariant.1 ∙ ap (λ (h : Held). h.rest) c.self.view_is) in
    (take n c.read.new.buf, (length-take-le n c.read.new.buf count, ap₂ holding (ap (λ xs. slice_range xs 0 stop) items ∙ text) (ap (λ xs. slice_range xs stop (size + n)) items ∙ rest)), c.in_ok-count.ensures.next)

pub returns-in_err-count-clause-reads : goal.returns-in_err-count-clause-reads
returns-in_err-count-clause-reads g c =
    let b = c.self.inside in
    let at = c.deref_mut.result.now in
    let size = b.end - b.start in
    let stop = b.stop - b.start in
    let k = size + c.min-room.result - size in
    let items = with_items_is c.move_to_front.new.bytes (put_mid size k at c.read.new.buf) (same_len_mid size k at c.read.new.buf c.read.auto.buf ∙ c.deref_mut.ensures.len) in
    let room : size ≤ length at = omega (arith, ap length c.deref_mut.ensures.value, c.move_to_front.ensures.size, c.self.invariant) in
    let text = text_kept at c.read.new.buf 0 stop size k 0 room (omega arith) (omega arith) (omega (arith, c.self.invariant)) ∙ ap (λ xs. slice_range xs 0 stop) c.deref_mut.ensures.value
    ∙ text_moved b.bytes.items c.move_to_front.new.bytes.items b.start b.stop b.end c.move_to_front.ensures.moved c.self.invariant.0 c.self.invariant.1 ∙ ap (λ (h : Held). h.text) c.self.view_is in
    let rest = text_kept at c.read.new.buf stop size size k 0 room (omega arith) (omega (arith, c.self.invariant)) (omega arith) ∙ ap (λ xs. slice_range xs stop size) c.deref_mut.ensures.value
    ∙ rest_moved b.bytes.items c.move_to_front.new.bytes.items b.start b.stop b.end c.move_to_front.ensures.moved c.self.invariant.0 c.self.invariant.1 ∙ ap (λ (h : Held). h.rest) c.self.view_is in
    ([], reads_none c.from_residual.result c.args.self.now _ c.from_residual.ensures.0 (ap₂ holding (ap (λ xs. slice_range xs 0 stop) items ∙ text) (ap (λ xs. slice_range xs stop size) items ∙ rest)), sym c.in_err-count.ensures.failed ∙ prepend-nil _)
