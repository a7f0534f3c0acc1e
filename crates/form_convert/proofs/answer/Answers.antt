-- `form_convert::answer` meets its contract: the definition's tests, one by one.
use mathlib.Core.Path.{refl}
use borrow.Author.Tests.{lt-ltb, le-ltb}
use Rattle.form_convert.specs.Convert.{answer_of}
use Rattle.form_convert.proofs.answer.Goals as goal

pub returns-then-nodes-gt-MAX_NODES : goal.returns-then-nodes-gt-MAX_NODES
unfolding answer_of
returns-then-nodes-gt-MAX_NODES c =
    rw (lt-ltb 4096 c.args.nodes c.if-nodes-gt-MAX_NODES.true) refl

pub returns-then-rows-gt-MAX_ROWS : goal.returns-then-rows-gt-MAX_ROWS
unfolding answer_of
returns-then-rows-gt-MAX_ROWS c =
    let a = c.args in
    rw (le-ltb 4096 a.nodes c.if-nodes-gt-MAX_NODES.false, lt-ltb 16 a.rows c.if-rows-gt-MAX_ROWS.true) refl

pub returns-then-first-count : goal.returns-then-first-count
unfolding answer_of
returns-then-first-count c =
    let a = c.args in
    rw (le-ltb 4096 a.nodes c.if-nodes-gt-MAX_NODES.false, le-ltb 16 a.rows c.if-rows-gt-MAX_ROWS.false, lt-ltb a.first a.count c.if-first-count.true) refl

pub returns-then-longest-size : goal.returns-then-longest-size
unfolding answer_of
returns-then-longest-size c =
    let a = c.args in
    rw (
      le-ltb 4096 a.nodes c.if-nodes-gt-MAX_NODES.false,
      le-ltb 16 a.rows c.if-rows-gt-MAX_ROWS.false,
      le-ltb a.first a.count c.if-first-count.false,
      lt-ltb a.longest a.size c.if-longest-size.true,
    ) refl

pub returns-then-drops : goal.returns-then-drops
unfolding answer_of
returns-then-drops c =
    let a = c.args in
    rw (
      le-ltb 4096 a.nodes c.if-nodes-gt-MAX_NODES.false,
      le-ltb 16 a.rows c.if-rows-gt-MAX_ROWS.false,
      le-ltb a.first a.count c.if-first-count.false,
      le-ltb a.longest a.size c.if-longest-size.false,
      c.if-drops.true,
    ) refl

pub returns-then-room-size : goal.returns-then-room-size
unfolding answer_of
returns-then-room-size c =
    let a = c.args in
    rw (
      le-ltb 4096 a.nodes c.if-nodes-gt-MAX_NODES.false,
      le-ltb 16 a.rows c.if-rows-gt-MAX_ROWS.false,
      le-ltb a.first a.count c.if-first-count.false,
      le-ltb a.longest a.size c.if-longest-size.false,
      c.if-drops.false,
      lt-ltb a.room a.size c.if-room-size.true,
    ) refl

pub returns : goal.returns
unfolding answer_of
returns c =
    let a = c.args in
    rw (
      le-ltb 4096 a.nodes c.if-nodes-gt-MAX_NODES.false,
      le-ltb 16 a.rows c.if-rows-gt-MAX_ROWS.false,
      le-ltb a.first a.count c.if-first-count.false,
      le-ltb a.longest a.size c.if-longest-size.false,
      c.if-drops.false,
      le-ltb a.room a.size c.if-room-size.false,
    ) refl
