use Rattle.std.proofs.Common.{Some, refl}
use Rattle.jobs.specs.Represents.{setting, state, enough}
use Rattle.jobs.specs.Requests.{to_begin, to_read, to_write, to_commit, to_tick}
use Rattle.diamond_register.proofs.Carrying.{At, made}
use Rattle.diamond_register.proofs.session.session.Goals as goal

pub returns : goal.returns
returns g c =
    let o = g.O.ClassOrder in
    let v = g.V.Value in
    let r = g.R.LocalRule in
    let x = c.args.register.now in
    let m = c.args.memory.now in
    let S = setting o v r x in
    let room = enough o v r x m in
    let begin = c.begin-begun.ensures in
    let write = c.write-written.ensures in
    let commit = c.commit-committed.ensures in
    let tick = c.tick-ticked.ensures in
    let open' = c.begin-opened.ensures in
    let read = c.read-read.ensures in
    let watch = c.read-watched.ensures in
    let start : At o v r S room (state o v r x m) x m = record { setting_is = refl; room_is = refl; state_is = refl } in
    let begun = made o v r S room _ x m start (to_begin 0 0 0) _ _ m begin.laws begin.reply begin.state (refl, refl, refl) in
    let written = made o v r S room _ _ _ begun.next (to_write 0 0 0 (Some c.args.value)) _ _ _ write.laws write.reply write.state write.memory.lengths in
    let committed = made o v r S room _ _ _ written.next (to_commit 0 0) _ _ _ commit.laws commit.reply commit.state commit.memory.lengths in
    let ticked = made o v r S room _ _ _ committed.next to_tick _ _ _ tick.laws tick.reply tick.state tick.memory.lengths in
    let opened = made o v r S room _ _ _ ticked.next (to_begin 1 0 0) _ _ _ open'.laws open'.reply open'.state (refl, refl, refl) in
    let had = made o v r S room _ _ _ opened.next (to_read 1 0 0 0) _ _ _ read.laws read.reply read.state read.memory.lengths in
    let watched = made o v r S room _ _ _ had.next (to_read 1 0 2 0) _ _ _ watch.laws watch.reply watch.state watch.memory.lengths in
    record {
      reply = (watched.replied, (had.replied, (opened.replied, (ticked.replied, (committed.replied, (written.replied, (begun.replied, tt)))))));
      state = (watched.next.setting_is, watched.next.state_is);
      laws = λ h stands.
          let h_1 = (begun.lawful h stands).0 in
          let h_2 = (written.lawful _ h_1).0 in
          let h_3 = (committed.lawful _ h_2).0 in
          let h_4 = (ticked.lawful _ h_3).0 in
          let h_5 = (opened.lawful _ h_4).0 in
          let h_6 = (had.lawful _ h_5).0 in
          watched.lawful _ h_6;
    }
