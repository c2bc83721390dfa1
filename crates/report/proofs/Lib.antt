mod Sound
mod Listed
