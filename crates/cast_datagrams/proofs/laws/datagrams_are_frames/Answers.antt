use Rattle.cast_datagrams.proofs.Datagrams as lemma
use Rattle.cast_datagrams.proofs.Runs.{frames_are_datagrams}
use Rattle.cast_datagrams.proofs.laws.datagrams_are_frames.Goals as goal

pub returns : goal.returns
returns c =
    record {
      sent = lemma.received_frames_were_sent;
      received = lemma.spelled_frames_are_received;
      spelled = lemma.sent_frames_are_spelled;
      wired = lemma.wired_frames_are_received;
      networks = lemma.datagrams_are_frames;
      causal = lemma.datagrams_deliver_causally;
      agree = lemma.datagrams_agree;
      told = lemma.datagrams_are_told;
      back = frames_are_datagrams;
    }
