use Rattle.as2_commands.proofs.command.command.Goals as goal

-- a command is added at a time
pub returns : goal.returns
returns c =
    let a1 = c.with_command-line.ensures _ _ c.with_options.ensures c.check.ensures in
    let a2 = c.with_command-line-2.ensures _ _ a1 c.migrate.ensures in
    let a3 = c.with_command-line-3.ensures _ _ a2 c.verify.ensures in
    let a4 = c.with_command-line-4.ensures _ _ a3 c.evidence.ensures in
    let a5 = c.with_command-line-5.ensures _ _ a4 c.post.ensures in
    let a6 = c.with_command-line-6.ensures _ _ a5 c.submit.ensures in
    let a7 = c.with_command-line-7.ensures _ _ a6 c.send.ensures in
    let a8 = c.with_command-line-8.ensures _ _ a7 c.tick.ensures in
    let a9 = c.with_command-line-9.ensures _ _ a8 c.resend.ensures in
    let a10 = c.with_command-line-10.ensures _ _ a9 c.list.ensures in
    let a11 = c.with_command-line-11.ensures _ _ a10 c.outstanding.ensures in
    let a12 = c.with_command-line-12.ensures _ _ a11 c.show.ensures in
    let a13 = c.with_command-line-13.ensures _ _ a12 c.fetch.ensures in
    let a14 = c.with_command-line-14.ensures _ _ a13 c.serve.ensures in
    let a15 = c.with_command-line-15.ensures _ _ a14 c.run.ensures in
    c.with_command.ensures _ _ a15 c.stop.ensures
