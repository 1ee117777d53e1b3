-- What the call that makes a catalogue fresh promises.
pub mod Promised
