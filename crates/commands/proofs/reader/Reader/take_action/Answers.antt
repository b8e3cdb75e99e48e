use Rattle.std.proofs.Common.{◌≡◌, ℕ, ap, ◌∙◌, take, drop, replicate, ◌++◌, sym, ◌≤◌, length, arith, rules}
use Rattle.std.proofs.lemmas.List.{length-take-le}
use Rattle.commands.specs.Bytes.{size_as, at2, list_at}
use Rattle.commands.specs.Kind.{code_of}
use Rattle.commands.proofs.Judged.{count_is}
use Rattle.commands.proofs.Numbers.{levels_padded, number_at1, number_at2, number_at4}
use Rattle.commands.proofs.reader.Reader.take_action.Goals as goal
use Rattle.commands.proofs.reader.Reader.take_action.Goals.{After-from_be_bytes-channel}

-- the channel is the number at 14, and the bytes behind it begin at 16
channel_there : (c : goal.After-from_be_bytes-channel) → 16 ≤ length c.args.self.now.bytes.now → (c.from_be_bytes-channel.result ≡ at2 c.args.self.now.bytes.now 14) × (c.take.new.self.at ≡ 16)
channel_there c h =
    let b = c.args.self.now.bytes.now in
    let place = c.requires.place in
    let next = c.take.ensures.place in
    (number_at2 b 14 h c.from_be_bytes-channel.ensures (c.take.ensures.value ∙ ap (λ n. take 2 (drop n b)) place), omega arith)

pub returns-in-Move : goal.returns-in-Move
returns-in-Move c =
    let b = c.args.self.now.bytes.now in
    let size = ap (λ k. size_as (code_of k) b) c.in-Move.is in
    let same = c.take.ensures.bytes in
    let (channel, at) = channel_there (goal.at.returns-in-Move c).After-from_be_bytes-channel (omega arith) in
    let chunk : c.take-in-Move.result ≡ take 4 (drop 16 b) = cc c.take-in-Move.ensures.value in
    let step = number_at4 b 16 (omega arith) c.from_be_bytes-in-Move.ensures chunk in
    let l = c.lower.ensures in
    let e = c.in_ok-channel.ensures in
    search rules

pub returns-in_ok-count-in-Scene : goal.returns-in_ok-count-in-Scene
returns-in_ok-count-in-Scene c =
    let b = c.args.self.now.bytes.now in
    let size = ap (λ k. size_as (code_of k) b) c.in-Scene.is in
    let same = c.take.ensures.bytes in
    let (channel, at) = channel_there (goal.at.returns-in_ok-count-in-Scene c).After-from_be_bytes-channel (omega arith) in
    let chunk : c.take-in-Scene.result ≡ take 1 (drop 16 b) = cc c.take-in-Scene.ensures.value in
    let count = number_at1 b 16 chunk in
    let other = c.take-in-Scene.ensures.bytes in
    let behind = c.take-in-Scene.ensures.place in
    let levels_at : c.take-in-Scene.new.self.at ≡ 17 = omega arith in
    let few = count_is c.from-in-Scene.result c.in_ok-count-in-Scene.count (sym c.in_ok-count-in-Scene.ensures) in
    let n = c.from-in-Scene-2.ensures in
    let places = length-take-le {A = ℕ} c.from-in-Scene-2.result (replicate 32 0) (omega (arith, few.1, few.2)) in
    let read : c.take_levels.new.levels ≡ list_at b 17 c.in_ok-count-in-Scene.count = cc c.take_levels.ensures in
    let levels = ap (λ k. c.take_levels.new.levels ++ drop k (replicate 32 0)) n ∙ levels_padded b c.in_ok-count-in-Scene.count read in
    let e = c.in_ok-channel.ensures in
    let f = c.in_ok-count-in-Scene.ensures in
    let g = c.from-in-Scene.ensures in
    search rules
