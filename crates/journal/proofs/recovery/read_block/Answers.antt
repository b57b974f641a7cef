use Rattle.std.proofs.Common.{◌≡◌, ◌+◌, ◌-◌, List, ℕ, length, take, drop, sym, ◌∙◌, ap, subst, arith, length-drop, IfOk}
use Rattle.std.proofs.lemmas.List.{drop-drop}
use Rattle.journal.specs.Block.{head_says, tested, part_said, or_part}
use Rattle.journal.specs.Recovery.{batch_bytes}
use Rattle.journal.specs.declared.block.First.{First}
use Rattle.journal.specs.declared.block.Head.TheVariants.{Closed, Part, Room, Other}
use Rattle.journal.proofs.Firsts.{first_is, has_room}
use Rattle.journal.proofs.Counting.{behind_at}
use Rattle.journal.proofs.recovery.read_block.Goals as goal

-- bytes behind the gate of a file's tail
tail_said : (file now : List ℕ) (at : ℕ) → now ≡ file → part_said (drop (at + 1) now) ≡ part_said (drop 1 (drop at file))
tail_said file now at same = ap (λ (f : List ℕ). part_said (drop (at + 1) f)) same ∙ ap part_said (sym (drop-drop 1 at file))

pub returns-in-Closed-clause-found : goal.returns-in-Closed-clause-found
returns-in-Closed-clause-found g c =
    let file = g.D.Device.seen c.args.device.now in
    let tail = drop c.args.at file in
    let left : c.args.len - c.args.at ≡ length tail = omega (arith, c.requires.all, length-drop c.args.at file) in
    let says : head_says tail ≡ Closed = sym (c.read_head.ensures tail (c.deref.ensures.value ∙ c.in_ok-head.ensures.bytes) left) ∙ c.in-Closed.is in
    sym (first_is tail Closed says)

pub returns-in-Other-clause-found : goal.returns-in-Other-clause-found
returns-in-Other-clause-found g c =
    let file = g.D.Device.seen c.args.device.now in
    let tail = drop c.args.at file in
    let left : c.args.len - c.args.at ≡ length tail = omega (arith, c.requires.all, length-drop c.args.at file) in
    let says : head_says tail ≡ Other = sym (c.read_head.ensures tail (c.deref.ensures.value ∙ c.in_ok-head.ensures.bytes) left) ∙ c.in-Other.is in
    sym (first_is tail Other says)

pub read_part-requires-clause-behind : goal.read_part-requires-clause-behind
read_part-requires-clause-behind g c =
    behind_at (g.D.Device.seen c.read_at.new.self) c.deref-in-Part.result.now c.args.at
    (c.deref-in-Part.ensures.value ∙ c.in_ok-head.ensures.bytes ∙ ap (λ (f : List ℕ). take 65 (drop c.args.at f)) (sym c.read_at.ensures.seen))

pub returns-in-Part-clause-found : goal.returns-in-Part-clause-found
returns-in-Part-clause-found g c =
    let file = g.D.Device.seen c.args.device.now in
    let tail = drop c.args.at file in
    let left : c.args.len - c.args.at ≡ length tail = omega (arith, c.requires.all, length-drop c.args.at file) in
    let says : head_says tail ≡ Part = sym (c.read_head.ensures tail (c.deref.ensures.value ∙ c.in_ok-head.ensures.bytes) left) ∙ c.in-Part.is in
    let same = tail_said file (g.D.Device.seen c.read_at.new.self) c.args.at c.read_at.ensures.seen ∙ sym (first_is tail Part says) in
    subst (λ (v : First (List (List ℕ))). IfOk c.read_part.result (λ f. batch_bytes f ≡ v)) same c.read_part.ensures.found

pub read_whole-requires-clause-room : goal.read_whole-requires-clause-room
read_whole-requires-clause-room g c =
    let file = g.D.Device.seen c.args.device.now in
    let tail = drop c.args.at file in
    let left : c.args.len - c.args.at ≡ length tail = omega (arith, c.requires.all, length-drop c.args.at file) in
    let says : head_says tail ≡ Room c.in-Room.size = sym (c.read_head.ensures tail (c.deref.ensures.value ∙ c.in_ok-head.ensures.bytes) left) ∙ c.in-Room.is in
    omega (arith, has_room tail c.in-Room.size says, length-drop c.args.at file, ap length c.read_at.ensures.seen)

pub read_part-requires-in-End-clause-behind : goal.read_part-requires-in-End-clause-behind
read_part-requires-in-End-clause-behind g c =
    behind_at (g.D.Device.seen c.read_whole.new.device) c.deref-in-End.result.now c.args.at
    (c.deref-in-End.ensures.value ∙ c.in_ok-head.ensures.bytes ∙ ap (λ (f : List ℕ). take 65 (drop c.args.at f)) (sym (c.read_whole.ensures.reads.same ∙ c.read_at.ensures.seen)))

pub returns-in-End-clause-found : goal.returns-in-End-clause-found
returns-in-End-clause-found g c =
    let file = g.D.Device.seen c.args.device.now in
    let tail = drop c.args.at file in
    let left : c.args.len - c.args.at ≡ length tail = omega (arith, c.requires.all, length-drop c.args.at file) in
    let size = c.in-Room.size in
    let says : head_says tail ≡ Room size = sym (c.read_head.ensures tail (c.deref.ensures.value ∙ c.in_ok-head.ensures.bytes) left) ∙ c.in-Room.is in
    let found = sym (ap (λ (f : List ℕ). tested (take (65 + size) (drop c.args.at f))) c.read_at.ensures.seen) ∙ sym c.in_ok-read_whole-in-Room.ensures.found ∙ ap batch_bytes c.in-End.is in
    let is = first_is tail (Room size) says ∙ ap (λ (f : First (List (List ℕ))). or_part (drop 1 tail) f) found in
    let same = tail_said file (g.D.Device.seen c.read_whole.new.device) c.args.at (c.read_whole.ensures.reads.same ∙ c.read_at.ensures.seen) ∙ sym is in
    subst (λ (v : First (List (List ℕ))). IfOk c.read_part-in-End.result (λ f. batch_bytes f ≡ v)) same c.read_part-in-End.ensures.found

pub returns-in-Whole-clause-found : goal.returns-in-Whole-clause-found
returns-in-Whole-clause-found g c =
    let file = g.D.Device.seen c.args.device.now in
    let tail = drop c.args.at file in
    let left : c.args.len - c.args.at ≡ length tail = omega (arith, c.requires.all, length-drop c.args.at file) in
    let size = c.in-Room.size in
    let says : head_says tail ≡ Room size = sym (c.read_head.ensures tail (c.deref.ensures.value ∙ c.in_ok-head.ensures.bytes) left) ∙ c.in-Room.is in
    let found = sym (ap (λ (f : List ℕ). tested (take (65 + size) (drop c.args.at f))) c.read_at.ensures.seen) ∙ sym c.in_ok-read_whole-in-Room.ensures.found ∙ ap batch_bytes c.in-Whole.is in
    sym (first_is tail (Room size) says ∙ ap (λ (f : First (List (List ℕ))). or_part (drop 1 tail) f) found)

pub returns-clause-found : goal.returns-clause-found
returns-clause-found g c =
    let file = g.D.Device.seen c.args.device.now in
    let tail = drop c.args.at file in
    let left : c.args.len - c.args.at ≡ length tail = omega (arith, c.requires.all, length-drop c.args.at file) in
    let size = c.in-Room.size in
    let says : head_says tail ≡ Room size = sym (c.read_head.ensures tail (c.deref.ensures.value ∙ c.in_ok-head.ensures.bytes) left) ∙ c.in-Room.is in
    let found = sym (ap (λ (f : List ℕ). tested (take (65 + size) (drop c.args.at f))) c.read_at.ensures.seen) ∙ sym c.in_ok-read_whole-in-Room.ensures.found ∙ ap batch_bytes c.in-Damaged.is in
    sym (first_is tail (Room size) says ∙ ap (λ (f : First (List (List ℕ))). or_part (drop 1 tail) f) found)
